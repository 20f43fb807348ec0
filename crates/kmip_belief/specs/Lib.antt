-- Whether a run believes its progress file.

-- the text that says against which server, and for which keys, a progress was saved
pub mod Origins
-- when a progress is believed without asking the server
pub mod Belief
