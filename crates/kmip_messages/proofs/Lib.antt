mod MemberLemmas
mod HeaderLaws
mod BatchLaws
mod ReplyLaws
mod SizeLemmas
mod ByteLemmas
mod LawLemmas
pub mod ForCallers
