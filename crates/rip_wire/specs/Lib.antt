pub mod Answers
pub mod Batches
pub mod Calls
pub mod Items
pub mod Laws
pub mod Names
pub mod Reasons
pub mod Tokens
