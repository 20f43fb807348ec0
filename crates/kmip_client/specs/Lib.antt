-- What a client knows of one key, and how each outcome changes it.

-- What is known at first, that more is to be asked, and the verdict on a key.
pub mod Knowledge
-- What each outcome teaches about a key, or why it is refused.
pub mod Learning
-- The number and the name of each fault and of each clash.
pub mod Faults
-- What a client asks about the keys of a plan, what it learns from replies, and when what it knows is true of
-- a server's objects.

-- What is asked about a key in each phase, and the id of a question.
pub mod Questions
-- What a contract sees of a client, and of the key at a place.
pub mod Clients
-- How many steps of each key are done, and the verdict on each.
pub mod Verdicts
-- What is heard of each reply of a message, and what is known after them.
pub mod Hearing
-- What is known by the answers alone, without what is asked next.
pub mod Known
-- What is never taken back, and what has to be known in a phase.
pub mod Shapes
-- How far the object of a key has come, and that objects go onward.
pub mod Places
-- What may be asked of these objects.
pub mod Justified
-- What a reply may say that is true of these objects.
pub mod Truth
-- Whose turn it is, and the next message.
pub mod Asking
-- What is kept of a client, and the client that goes on from it.
pub mod Saving
-- The text of what is known, which is kept up as more is known.
pub mod KeepingUp
-- What is known, or was kept, is true of these objects.
pub mod Held
-- What holds of objects that go onward, and of what a client asks and knows.
pub mod Laws
-- How many more exchanges a client makes at most.
pub mod Bounding
-- private: what only the clauses of private functions cite
pub mod Private
