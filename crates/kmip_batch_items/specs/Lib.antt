-- How items are found by their tags, and how a part of a message is described once, to be read and written.

-- How one item is looked for by its tag and its type, and the fault where it is not there.
pub mod Siblings
-- How often an item stands among its siblings, in any order.
pub mod Occurrences
-- What it means that a call returned what is read, unless memory ran out.
pub mod Reading
-- A part of a message by its format: how it is written, how it is read, and what its items say.
pub mod Formats
-- The number and the name of each fault, and what it is about.
pub mod Faults
-- Private: what makes a format a good one.
pub mod PrivateFormatLaws
-- What one Batch Item of a message says, how it is read and written, and which values may stand in it.

-- The operations and their numbers.
pub mod Operations
-- The range of a Unique Batch Item ID.
pub mod Ranges
-- Which requests have their values in range.
pub mod RequestFits
-- The Unique Batch Item ID and the Unique Identifier, as they stand among items.
pub mod Marks
-- The attributes of the profile in a message: what they say, and how they are written and read.
pub mod Attributes
-- The items of a message of a tag, and the parts that both kinds of message have.
pub mod Parts
-- The Batch Item of a request described once, part by part, with a list of its items.
pub mod RequestFormats
-- The Batch Item of a reply described once, part by part, with a list of its items.
pub mod ReplyFormats
-- Which outcomes have their values in range.
pub mod Fits
-- What the items of a request say, by hand.
pub mod Requests
-- What the items of a reply say, by hand.
pub mod Replies
-- The item that all of some bytes spell.
pub mod Whole
-- What a Batch Item is as a whole: a question, or a reply; read, said and written.
pub mod BatchItems
-- That a number is the length of an item, or both are more than a message may have.
pub mod MessageSizes
-- private: what only the clauses of private functions cite
pub mod Private
