pub mod Offending
pub mod Postfixes
pub mod Producing
pub mod Refusals
pub mod Rows
