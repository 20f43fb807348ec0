pub mod FreshLemmas
