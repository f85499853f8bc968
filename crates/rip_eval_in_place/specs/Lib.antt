pub mod AddedTexts
pub mod InPlace
