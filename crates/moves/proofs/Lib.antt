pub mod Sideways
pub mod Neighbours
pub mod Moving
pub mod Looking
pub mod Held
