-- What is reported of plans and of progresses.

-- what `check` reports
pub mod Checking
-- how the keys of a plan stand, by what is known of them and the verdicts on them
pub mod Standings
-- what `list` reports
pub mod Listing
-- the lines of a plan or a progress that is refused
pub mod Refusals
-- private: what only the clauses of private functions cite
pub mod Private
