mod Carried
pub mod CountLemmas
mod FormLemmas
pub mod GeneratePlanLemmas
mod GeneratedLemmas
mod LieLemmas
mod Lines
mod MomentLemmas
mod PaceLemmas
mod Places
pub mod PlanLemmas
mod Results
pub mod ServeLemmas
pub mod SumLemmas
mod WorkLemmas
