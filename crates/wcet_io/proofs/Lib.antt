-- Lemmas on the two loops.
pub mod Delivered
pub mod Gathered
