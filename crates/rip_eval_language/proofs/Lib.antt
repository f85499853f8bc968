pub mod Abruptly
pub mod Children
pub mod Scopes
