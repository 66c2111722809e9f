pub mod Ends
pub mod Keys
