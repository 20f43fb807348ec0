-- The files and the lock of a run, and a run over any of them.

-- open this first: what a run promises
pub mod DeskRuns
-- what is seen of a desk, and what each call of it does
pub mod Desks
-- what a run begins with
pub mod Beginnings
-- what is seen of a desk in memory
pub mod Memory
-- private: a desk of which nothing is claimed
pub mod Private
-- private: what reading the files of a desk gives
pub mod PrivateReading
