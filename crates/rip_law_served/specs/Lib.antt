pub mod Honest
pub mod Meant
pub mod Served
