pub mod Gates
pub mod Numbers
