-- What a look at the keys that a progress file knows promises.

-- open this first: what the look promises
pub mod Refreshing
-- whether the server agrees with the progress file
pub mod Agreements
-- the keys that the progress file knows
pub mod KnownKeys
-- what was so of a key since the call began
pub mod Moments
