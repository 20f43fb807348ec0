-- What `run` promises, what it prints, what its exchanges come to, and what stays safe.

-- what a run promises
pub mod Runs
-- what a run begins with, and how it ended
pub mod RunEnds
-- what came of the exchanges, and what stays safe over an honest link
pub mod Course
-- the report of the end of a run
pub mod RunReport
-- what stands in the way of a run
pub mod Causes
-- what holds of runs after a crash
pub mod Laws
-- the line that says how far a run is
pub mod ProgressLineText
