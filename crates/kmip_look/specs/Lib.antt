-- What a look asks, what it says of the keys of a plan, and what holds of it.

-- open this first: what a look promises
pub mod Looks
-- how a key stands over some objects, as a look says it
pub mod Standings
-- a moment since a look began
pub mod Moments
-- the laws: looks change nothing
pub mod Laws
-- private: what is asked about a key
pub mod PrivateAsking
-- private: what is learnt of the replies
pub mod PrivateHearing
-- private: what a message over a link does
pub mod PrivatePutting
-- private: what holds of the keys as a look goes on
pub mod PrivateKeeping
-- private: how often was asked about the keys
pub mod PrivateTrying
-- private: a group that is asked about, and what is promised of asking
pub mod PrivateGroups
