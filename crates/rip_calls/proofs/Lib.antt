pub mod LineLemmas
pub mod QueueLemmas
pub mod Walks
