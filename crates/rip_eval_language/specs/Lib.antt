pub mod Does
pub mod Reading
pub mod Rows
pub mod Table
pub mod Worked
