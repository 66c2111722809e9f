pub mod Spell
pub mod Bridges
pub mod Stacks
pub mod Patches
pub mod Fresh
pub mod Held
pub mod HeldTrees
