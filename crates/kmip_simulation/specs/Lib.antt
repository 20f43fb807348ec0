-- What the definitions of this crate are for: what holds of the runs of a script, and what is written of them.
-- The runs of a script for one plan, or for two: what holds of all that happened, and of how they ended.
pub mod Simulating
-- What happened over the link, moment by moment.
pub mod Moments
-- What is written of these moments, a line each.
pub mod Tracing
-- What is drawn of these moments, as a sequence diagram.
pub mod Diagram
