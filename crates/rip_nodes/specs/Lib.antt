pub mod Answers
pub mod Attributes
pub mod Calls
pub mod Members
pub mod Names
pub mod Reading
pub mod Texts
pub mod Writing
