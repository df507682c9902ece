-- Lemmas on the conflicts of a block.
pub mod Adding
pub mod Joining
pub mod Touching
