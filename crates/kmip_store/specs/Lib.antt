-- What the records of a server hold, and what each call does to them, whatever keeps them.

-- What the records hold, what a Create adds, and what holds of them at all times.
pub mod Stock
-- The records after Activate, Revoke and Destroy, or why one is refused.
pub mod Stepping
-- Which objects a Locate finds.
pub mod Locating
-- What a list of calls answers, and the records after it.
pub mod Calling
-- What holds of all records: the next identifier is free, and each change keeps them.
pub mod Laws
-- The number and the name of each fault.
pub mod Faults
-- Where the maps of an `IndexedStore` lead, for contracts of functions that are not public.
pub mod PrivateIndexing
