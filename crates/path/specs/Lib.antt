pub mod Ways
pub mod Levels
pub mod Cores
