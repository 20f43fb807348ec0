pub mod PieceLemmas
pub mod ServingLemmas
pub mod BytesLemmas
pub mod ConversationLemmas
