pub mod Answering
pub mod Existing
pub mod LoadLemmas
pub mod ScriptLemmas
