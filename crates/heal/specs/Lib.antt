pub mod Steps
pub mod Wounds
pub mod Cycle
pub mod Kinds
pub mod KindLaws
