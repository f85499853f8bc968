pub mod Builtins
pub mod FixedSearch
pub mod FixedTable
pub mod FixedTexts
pub mod GlobalTable
pub mod Globals
pub mod Pool
