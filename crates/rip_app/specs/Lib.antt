pub mod App
pub mod Laws
pub mod Script
