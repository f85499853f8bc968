pub mod ErrorLemmas
pub mod KeptLemmas
pub mod KeyLemmas
pub mod LawLemmas
pub mod ListLemmas
pub mod PlaceLemmas
