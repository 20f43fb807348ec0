-- What the server answers a message, what its records are after it, and which steps took effect.

-- the Result Reason that answers each fault
pub mod Reasons
-- the records as the crates above know them: objects, and the room for them
pub mod Shown
-- what is answered to one question, as a function of the records
pub mod Serving
-- the step of the server as a relation over objects, a rule for each case
pub mod ServerStep
-- questions in turn: which may change the records, and which were refused
pub mod Again
-- that a question is a step of the server, or is refused
pub mod Messages
-- which step a question took that was served, and on the object of which name
pub mod Effects
-- the questions of a message in turn: the reply, the records after it, and the steps
pub mod Batching
-- what answering a message promises
pub mod Handles
-- what a Locate by a name alone answers
pub mod Laws
-- private: the reply that is being made
pub mod PrivateAnswering
-- private: what only the clauses of private functions cite
pub mod Private
