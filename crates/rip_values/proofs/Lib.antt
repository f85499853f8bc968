pub mod BuiltinLemmas
pub mod BuiltinTableLemmas
pub mod FixedLemmas
pub mod FixedTableLemmas
pub mod PoolLemmas
