-- What a probe asks a server, and what its answers say of the premises of the headline.

-- the names of a probe, and what is asked about their objects
pub mod Inquiries
-- which version the bytes of a message say that they have
pub mod Unreadable
-- what came of a question
pub mod Answers
-- what is asked next, and what the answers are
pub mod Asking
-- what a server of this profile answers
pub mod Serving
-- which attributes of a new object are told
pub mod Telling
-- what the answers say of each premise
pub mod Judging
-- the law: a server of this profile keeps every premise
pub mod Laws
-- what putting questions over a link does to the past
pub mod Putting
-- how the two objects of a probe stand after some answers
pub mod TwoObjects
-- private: what only the clauses of private functions cite
pub mod Private
