-- What `answer` and `show` read and write.

-- the lines of some bytes
pub mod Lines
-- what was written of what was read
pub mod Printing
-- what a line says, and whether it is refused
pub mod Judging
-- what a command writes for its lines, one after the other
pub mod LineText
-- what `answer` writes
pub mod AnswerText
-- what `answer --stream` writes, and how its stream ends
pub mod StreamText
-- what `show` writes
pub mod Showing
-- private: `answer --stream` byte by byte
pub mod PrivateBytewise
-- private: what only the clauses of private functions cite
pub mod Private
