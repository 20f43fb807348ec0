-- What the definitions of this crate are for: the words in which an exchange is told to a reader.
-- The names of operations and of states.
pub mod Names
-- What the bytes of a message ask.
pub mod Questions
-- What came back for them.
pub mod Answers
-- The names of the reasons for which a server refuses.
pub mod Reasons
-- A usage mask.
pub mod UsageWords
