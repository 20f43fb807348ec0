-- A file that is replaced over a disk that may stop at any instant.

-- what is seen of a disk: what reads give, and what a crash may leave
pub mod Views
-- what each call of a disk promises
pub mod Calls
-- what replacing a file promises
pub mod Whole
-- what holds of a run of writes over any disk
pub mod Laws
-- what is seen of a disk in memory
pub mod Memory
-- a disk of which nothing is claimed
pub mod Private
-- private: what the parts of replacing a file promise
pub mod PrivateWhole
