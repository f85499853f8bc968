pub mod Actors
pub mod Drivers
pub mod Driving
