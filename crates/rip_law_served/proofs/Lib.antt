pub mod AppItems
mod CloseLemmas
pub mod CountLemmas
pub mod KeepsPlans
mod MadeLemmas
pub mod NextCalls
pub mod PartLemmas
pub mod ServedLemmas
