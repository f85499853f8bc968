pub mod Bound
pub mod Fronts
pub mod Offending
pub mod Places
