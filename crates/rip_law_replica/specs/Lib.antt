pub mod AtStage
pub mod Depth
pub mod Laws
pub mod Prefix
pub mod Sound
pub mod Spots
pub mod Truthful
