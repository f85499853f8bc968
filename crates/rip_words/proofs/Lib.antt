pub mod NumeralsLemmas
pub mod WordLemmas
