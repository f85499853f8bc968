pub mod Beginnings
pub mod Loads
pub mod LoopRuns
pub mod PlanLaws
pub mod Roomed
pub mod TakenBack
pub mod WholeRuns
