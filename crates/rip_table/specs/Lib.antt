pub mod Laws
pub mod Lending
pub mod Ordinals
pub mod Rolls
pub mod Seats
pub mod Table
pub mod Walks
