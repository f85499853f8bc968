pub mod LawLemmas
pub mod NumberLemmas
pub mod OptionLemmas
pub mod StateLemmas
