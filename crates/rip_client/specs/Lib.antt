pub mod Bytes
pub mod Cutting
pub mod Sizes
pub mod Truth
pub mod Wholes
