-- What a line of a report is, in text and in JSON.

-- the document of some members, byte for byte
pub mod Documents
-- a line of pieces, and a report of lines, in both forms
pub mod Pieces
-- the values and the members of the code, in text and in JSON
pub mod Members
-- the pieces of the code
pub mod PieceViews
-- what holds of every document: it is read back
pub mod Laws
-- the documents of faults
pub mod FaultLines
-- how a command ends, and what it prints then
pub mod Endings
-- private: what only the clauses of private functions cite
pub mod Private
