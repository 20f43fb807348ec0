mod RoomLemmas
pub mod MomentLemmas
pub mod PlansLemmas
pub mod CrashingLemmas
