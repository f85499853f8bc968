pub mod Bodies
pub mod Fronts
pub mod PlayedWhole
pub mod Telling
