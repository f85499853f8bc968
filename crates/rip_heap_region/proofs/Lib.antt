mod ArrayLemmas
pub mod BlockLemmas
mod CallLemmas
pub mod ChainLemmas
pub mod ChangeLemmas
pub mod KeptLemmas
pub mod ListLemmas
pub mod NameIndexLemmas
pub mod NameLemmas
pub mod PageLemmas
pub mod PlaceLemmas
pub mod RowLemmas
mod SegmentLemmas
mod ValueLemmas
pub mod WalkLemmas
