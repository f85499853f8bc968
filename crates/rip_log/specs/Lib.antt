pub mod Endings
pub mod Entries
pub mod Histories
pub mod Lines
pub mod Parts
pub mod Ranges
pub mod Words
