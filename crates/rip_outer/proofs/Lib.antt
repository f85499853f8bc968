pub mod Composing
pub mod Cuts
pub mod Doors
pub mod Examples
pub mod Marks
pub mod Telling
