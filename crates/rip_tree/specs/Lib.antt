pub mod Branches
pub mod Firsts
pub mod Joining
pub mod Making
pub mod Program
