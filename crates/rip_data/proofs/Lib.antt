pub mod DataLemmas
pub mod ReadLemmas
pub mod SizeLemmas
pub mod TextLaws
