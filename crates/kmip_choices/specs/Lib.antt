-- What a choice asks for.

-- that a choice is to check, or to simulate, what stands at just these paths
pub mod Choices
-- the shells, by their words
pub mod Shells
