pub mod Histories
pub mod Holdings
