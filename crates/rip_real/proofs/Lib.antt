pub mod Deeds
pub mod Journals
pub mod Walks
