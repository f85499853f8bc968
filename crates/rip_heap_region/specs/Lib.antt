pub mod Blocks
pub mod Chains
pub mod IndexMemory
pub mod NameIndex
pub mod Names
pub mod PageMemory
pub mod Pages
pub mod Segments
