-- What the program says of what keeps a command from its work.

-- the words of what cannot be done
pub mod Words
-- the lines of what keeps a command from its work
pub mod ObstacleLines
