pub mod AddsLemmas
pub mod ChildLemmas
pub mod LimitLemmas
pub mod LinkLemmas
pub mod NameLemmas
pub mod PoolLemmas
