pub mod EffectLemmas
pub mod FlowingLemmas
pub mod OpeningLemmas
pub mod StepLemmas
