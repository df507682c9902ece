-- Lemmas on the tables of a net.
pub mod Numbering
pub mod Counting
pub mod Entered
pub mod Leaving
