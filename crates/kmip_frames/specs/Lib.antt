-- What a message of a stream is, and what a framer holds, takes and hands over.

-- The head of a message: how many bytes follow it, and why eight bytes are none.
pub mod Heads
-- What a message is, and what a stream of them.
pub mod Streams
-- What a framer may hold, what `feed` takes, and what `next` hands over.
pub mod Framing
-- A framer's calls, one after another.
pub mod Calls
-- What holds of all bytes, of all streams and of all framers.
pub mod Laws
-- The number and the name of each fault.
pub mod Faults
