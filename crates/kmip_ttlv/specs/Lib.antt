-- What an item is, which bytes spell it, what is read and what is written, and how it is shown.

-- How deep and how long an item may be, and how long its head is.
pub mod Limits
-- An item as a pure value: its tag, and one case for each type.
pub mod Node
-- What an `Item` of the code is as a pure value.
pub mod View
-- The numbers of the types, and the lengths that a value of each may have.
pub mod Types
-- The ranges of bytes and of values, and how many levels an item has.
pub mod Fitting
-- The one spelling that is written, and every spelling that is read.
pub mod Spelling
-- Which items have a written form, and how many bytes it takes.
pub mod Sizes
-- The tag, the type and the length at the front of some bytes, or the first check that fails.
pub mod Heads
-- The first fault of bytes at whose front no item stands.
pub mod Breaks
-- One step of reading after another, each with a value or a fault.
pub mod Binding
-- Reading as one function of the bytes, and what it means that `read` returned that.
pub mod Reading
-- An item as text, and a text in plain characters.
pub mod Showing
-- The number, the name and the place of each fault.
pub mod Faults
-- private: what only the clauses of private functions cite
pub mod Private
