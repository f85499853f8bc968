pub mod InPlace
pub mod Texts
