-- What a run records of its exchanges and its keys.

-- how often something happened to each operation
pub mod OperationCounts
-- how far a key is known to be
pub mod Stages
-- when a server last replied
pub mod Times
-- what was asked in an exchange, and what came of it
pub mod Exchanges
-- what was heard of a key
pub mod Stories
-- what is counted of a run
pub mod Scores
-- what a run finds out of its keys
pub mod RunFindings
-- why no reply came
pub mod Silences
-- the words for that
pub mod Words
-- private: how often something happened to an operation
pub mod PrivateCounts
-- private: which setback an answer leaves
pub mod PrivateSetbacks
-- private: what an exchange makes of a story
pub mod PrivateStories
