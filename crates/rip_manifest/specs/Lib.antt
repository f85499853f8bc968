pub mod Functions
pub mod Laws
pub mod Limits
pub mod Manifest
pub mod Names
pub mod Printed
pub mod Reading
