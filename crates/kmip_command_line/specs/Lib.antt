-- How the program ends where the words ask for no command.

-- the end of the program, by the kind of the error
pub mod Statuses
