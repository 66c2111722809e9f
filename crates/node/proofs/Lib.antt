pub mod Pads
pub mod Words
pub mod ItemLaws
pub mod KindLaws
pub mod Steps
pub mod OnItems
