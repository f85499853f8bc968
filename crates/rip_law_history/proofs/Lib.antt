pub mod AdvanceLemmas
pub mod AloneLemmas
pub mod BrokenLemmas
mod DecidedLemmas
pub mod EndLemmas
pub mod EntryLemmas
pub mod FitLemmas
mod IdentifierLemmas
mod RangeMadeLemmas
pub mod RangeRunLemmas
pub mod ServiceLemmas
pub mod SliceLemmas
pub mod StandLemmas
pub mod StreamLemmas
pub mod ViewLemmas
pub mod WholeMadeLemmas
pub mod WholeRunLemmas
