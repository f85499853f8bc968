pub mod Back
pub mod Law
pub mod Loading
pub mod PlanLaws
pub mod Plans
pub mod Run
pub mod Starting
pub mod Turns
