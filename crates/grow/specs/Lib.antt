pub mod Grows
pub mod Puts
