-- What `look` reports of the keys of a plan.

-- the words of what was found out
pub mod LookWords
-- the report
pub mod LookReport
-- that it was written
pub mod Writing
-- private: what only the clauses of private functions cite
pub mod Private
