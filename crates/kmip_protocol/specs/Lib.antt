-- What may happen between a client and its server, and what holds of it: the words in which the headline is
-- said.

-- open this first: when a past is safe, and the files in whose words that is said
pub mod Headline
-- the number and the name of each fault of a link, and how many failures there may be
pub mod Faults
-- all that was ever asked, answered and done, and the objects that are there
pub mod Past
-- what may happen next, whatever the network and the server do
pub mod Moves
-- what holds of the past for the keys of a plan at all times
pub mod Sound
-- what an exchange over an honest link does to the past
pub mod Exchanges
-- what happens over a link among other clients of the plan
pub mod Amid
-- what a failed exchange is to whoever made it
pub mod Losses
-- what an exchange over a calm link does to the past
pub mod Calm
-- which exchanges go as they should, and what a link counts of the others
pub mod Clean
-- where the runs ended that were ended over a link
pub mod Ending
-- all that a contract sees of a link, as one value
pub mod Seen
-- what an exchange and the end of a run promise
pub mod Linking
-- the plan machine, and when a past is an image of it
pub mod Machine
-- the laws of all that may happen
pub mod Laws
-- the laws of what happens among other clients
pub mod AmidLaws
-- private: the laws of the crates below that the laws here rest on
pub mod PrivateLawbook
-- How near a client is to its end, by the questions that its keys still need.

-- how many questions the keys still need over a calm link
pub mod Needs
-- when a client comes to its end over a calm link
pub mod Ready
-- what a client knows once its message has an answer, or none
pub mod Turns
-- the laws of clients over a calm link
pub mod SettlingLaws
-- how many questions may be left over a link that goes on losing
pub mod Losing
-- the laws of clients over such a link
pub mod LosingLaws
-- private: the laws of the crates below that the laws here rest on
pub mod PrivateSettlingLawbook
-- private: what only clauses of private functions and instances of traits cite
pub mod Private
