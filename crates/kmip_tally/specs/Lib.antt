-- What the crate counts.

-- how many keys have each verdict
pub mod Counting
-- the numbers that are kept of it
pub mod PrivateCounts
-- what a run asked, and what it took
pub mod Courses
