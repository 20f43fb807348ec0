-- What the command `sim` reports, and how it ends.

-- how a simulation ended, for a plan, a further one and a script
pub mod SimEnds
-- the lines of its report, and its outcome
pub mod SimReport
-- what `sim` writes
pub mod Writing
-- private: what only the clauses of private functions cite
pub mod Private
