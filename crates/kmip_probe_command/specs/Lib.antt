-- What `probe` writes for the answers of its questions.

-- the words for each premise, and for all of them
pub mod Wording
-- the words for a look at a name that told nothing
pub mod LookText
-- the lines of the report
pub mod Lines
-- what is printed of the premises where each is kept
pub mod KeptLines
-- what the whole probe writes, in a form
pub mod ProbeText
-- what was written where a probe breaks off
pub mod Midway
-- private: what only the clauses of private functions cite
pub mod Private
