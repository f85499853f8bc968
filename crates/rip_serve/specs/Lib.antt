pub mod Making
pub mod Serving
pub mod Sites
