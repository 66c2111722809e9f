pub mod States
pub mod Paths
pub mod Asks
