pub mod Apply
pub mod Args
pub mod Held
pub mod Kept
pub mod Laws
pub mod Operations
pub mod Outcomes
pub mod Places
