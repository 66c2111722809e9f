pub mod Values
pub mod Gating
pub mod Promising
pub mod Removing
