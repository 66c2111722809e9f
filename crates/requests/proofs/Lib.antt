pub mod Decimals
pub mod Judging
pub mod Falling
pub mod Whole
pub mod Settled
pub mod AnyRun
pub mod Trials
pub mod Program
