mod RequestLemmas
pub mod ArrivalLemmas
pub mod WordLemmas
pub mod FollowLemmas
pub mod CountLemmas
pub mod CleanLemmas
pub mod EndingLemmas
pub mod RunsLemmas
pub mod SplitLemmas
pub mod PartLemmas
pub mod CrashLemmas
pub mod CallLemmas
pub mod ScriptLemmas
pub mod ScriptLaws
