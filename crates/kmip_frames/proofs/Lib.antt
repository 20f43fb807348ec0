pub mod Sizes
pub mod Messages
pub mod Feeding
pub mod Steps
pub mod ForCallers
pub mod Calls
