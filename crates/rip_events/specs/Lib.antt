pub mod Chained
pub mod Flow
pub mod Laws
pub mod Listed
pub mod Reached
