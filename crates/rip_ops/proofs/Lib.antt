pub mod AlongLemmas
pub mod ArrayLemmas
pub mod BuiltinLemmas
pub mod JoiningLemmas
pub mod ObjectLemmas
pub mod PlainLemmas
pub mod QuotientLemmas
