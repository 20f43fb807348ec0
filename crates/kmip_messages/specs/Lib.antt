-- What the bytes of a message ask and say, as lists, and how these are written.

-- The headers of messages, by their formats.
pub mod Headers
-- How many Batch Items a message has, what they say, and what is read of them.
pub mod Members
-- The questions of a request and the replies of a message, with a list of the items.
pub mod Batches
-- What is in range of a question that was read.
pub mod Ranges
-- The written item of each message, and which have a written form.
pub mod Written
-- What some bytes ask and say, as lists.
pub mod Items
-- What holds of these lists.
pub mod Laws
-- private: what only the clauses of private functions cite
pub mod Private
