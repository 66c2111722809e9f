pub mod Text
pub mod Replay
pub mod Turns
pub mod Runs
pub mod Program
