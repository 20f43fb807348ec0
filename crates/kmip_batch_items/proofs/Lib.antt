mod SiblingLemmas
pub mod ItemReads
pub mod TagLemmas
mod ExtentLemmas
pub mod FormatParts
mod IdentifierLemmas
mod WrittenLemmas
mod Readers
mod AttributeLaws
mod RequestLaws
mod RequestSaid
mod WholeLaws
mod ReplyLaws
mod ReplySaid
mod AskedLemmas
mod SaidLemmas
pub mod BatchItemLaws
pub mod BatchItemSizes
