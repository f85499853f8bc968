pub mod AnswerLemmas
pub mod Answering
pub mod FunctionLemmas
pub mod JsonLemmas
pub mod LimitLemmas
pub mod PartLemmas
pub mod VersionLemmas
