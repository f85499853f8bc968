mod Chains
mod Climbs
mod Finds
mod LawLemmas
mod LeftLemmas
mod Pushed
mod Steps
