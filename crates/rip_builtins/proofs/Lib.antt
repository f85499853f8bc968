pub mod ArrayLemmas
pub mod JoinLemmas
pub mod NumberLemmas
pub mod RangedLemmas
pub mod SearchLemmas
