pub mod History
pub mod Deeds
pub mod Journal
