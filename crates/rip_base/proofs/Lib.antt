pub mod DecimalLemmas
pub mod NumberLaws
pub mod NumberLemmas
pub mod TextLemmas
