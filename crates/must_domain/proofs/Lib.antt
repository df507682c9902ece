-- Lemmas on upper ages.
pub mod Changing
pub mod Joining
pub mod Touching
pub mod Walking
