mod Admitting
pub mod Askers
mod Busy
pub mod Coming
pub mod Conversed
pub mod Conversing
mod Examples
pub mod Fronts
mod GoLemmas
mod GoingDeciding
mod Handling
pub mod Idle
pub mod MeantLemmas
mod OnLemmas
mod OpeningsLemmas
mod Ordering
pub mod Owing
pub mod PaceDeciding
pub mod PaceLemmas
pub mod ServeLemmas
mod TurnLemmas
pub mod Turned
pub mod Turns
pub mod Waiting
