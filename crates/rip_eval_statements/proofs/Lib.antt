pub mod Clauses
pub mod Declared
pub mod Filling
