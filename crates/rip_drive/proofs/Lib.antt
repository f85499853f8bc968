mod Drives
pub mod Legal
mod Lines
mod NextCalls
pub mod Played
pub mod Simulation
mod Traces
