-- What is read and written where messages go over streams, and what a contract sees of a link over them.

-- what one call that receives takes from a reader, and what it returns
pub mod Receiving
-- what a server does to a stream of messages, and how the stream ends
pub mod Serving
-- what a server does to a connection that it answers step by step
pub mod Conversations
-- what is seen of a link over streams, and what happens to it
pub mod Links
-- private: what only the clauses of private functions cite
pub mod Private
-- private: what only the clauses of private functions of a conversation cite
pub mod PrivateConversations
-- private: what is claimed of a link to a server, wherever it is
pub mod PrivateServerLinks
