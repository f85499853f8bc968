mod RangeLemmas
pub mod RunLemmas
pub mod SiteLemmas
pub mod TellLemmas
pub mod TurnLemmas
