-- Which exchanges a link counts, and how its counts rise.

-- When an exchange is disturbed, and the counts after an exchange.
pub mod Counting
-- What a script says, and what a link in memory does that follows it.

-- what a link in memory holds, and what that says of the past
pub mod Scenes
-- what a message does that arrives at the server
pub mod Serving
-- which exchanges are counted as disturbed
pub mod Disturbing
-- what each word does, and so an exchange and the end of a run
pub mod Words
-- what has happened where memory runs out in an exchange
pub mod Wanting
-- what calls make of a link
pub mod Following
-- the runs that the words of a script make for a plan
pub mod Runs
-- that the runs of a script are those that its link ends
pub mod Laws
-- which texts are scripts, and which line is the first at fault
pub mod ScriptTexts
-- the numbers and the names of the faults
pub mod Faults
-- what reading a script gives, line by line
pub mod ScriptReading
-- private: the laws that the arrival of a message rests on
pub mod PrivateArriving
-- private: what may have happened before a message was asked
pub mod PrivateEarly
-- private: what only the clauses of private functions cite
pub mod Private
