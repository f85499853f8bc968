pub mod Calls
pub mod Events
pub mod Opening
pub mod Positions
pub mod Replies
pub mod Steps
pub mod Visits
