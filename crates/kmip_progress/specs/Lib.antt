-- The text that keeps what is known of the keys of a plan: what it says, how it is written and how it is
-- read.

-- What may be known of the keys of a plan.
pub mod Suiting
-- The words of a text and what they stand for.
pub mod Words
-- The texts of both formats, and what each says of the keys of a plan.
pub mod Texts
-- What is known by a text, or the first fault in the order of the checks.
pub mod Reading
-- The text of a progress, kept beside what each of its lines says.
pub mod Saved
-- The number and the name of each fault.
pub mod Faults
-- What holds of every text: it is read back, its fronts are cut, and prolonged plans read it.
pub mod Laws
-- private: what only the clauses of private functions cite
pub mod Private
