pub mod ItemLemmas
pub mod LimitLemmas
pub mod OpeningLemmas
pub mod SessionLemmas
pub mod Staying
pub mod WorkLemmas
