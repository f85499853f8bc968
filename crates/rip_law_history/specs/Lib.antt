pub mod Alone
pub mod Broken
pub mod Legal
pub mod Ranged
pub mod Sliced
pub mod Streams
