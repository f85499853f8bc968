pub mod CountingLemmas
pub mod KeepsAnswers
pub mod KeepsCalls
pub mod KeepsRuns
pub mod TreeLimits
pub mod UnreadAnswers
pub mod UnreadRuns
