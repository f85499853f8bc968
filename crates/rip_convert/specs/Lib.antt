pub mod Arguments
pub mod Pieces
pub mod Told
pub mod Values
pub mod Written
