pub mod Datum
pub mod Laws
pub mod Reading
pub mod Written
