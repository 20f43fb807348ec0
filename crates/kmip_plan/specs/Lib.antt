-- What a key is to go through: the steps and the states on the way to each target.

-- The words that name the targets in a plan.
pub mod TargetWords
-- The steps to a target, the states on the way, and the places of both.
pub mod Chains
-- What holds of all chains and of their words.
pub mod ChainLaws
-- Which tables of TOML are a plan, what holds of every plan, and when one plan takes over from another.

-- The words of a plan and the numbers that they stand for.
pub mod Words
-- The most keys of a plan.
pub mod Limits
-- What is at a key of a table, and that a table has no other fields.
pub mod Tables
-- The value of each field of a key: usage words as a mask, the reason of a Revoke.
pub mod Fields
-- The plan that a text is, or the first fault in the order of the checks.
pub mod Reading
-- The table that is a plan of some keys, whatever the order of reading, and what holds of every plan.
pub mod Plans
-- The number, the name, the key and the field of each fault.
pub mod Faults
-- When a new plan takes over from an old one, key by key.
pub mod Prolonging
-- What holds of the keys of every plan, and of a plan that prolongs another.
pub mod Laws
-- Private: the set of names beside the keys that were read so far.
pub mod PrivateNames
