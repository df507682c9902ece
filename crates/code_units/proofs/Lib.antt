-- Lemmas of units and of the records of targets, and of sorted lists.
pub mod Lists
pub mod LowWords
pub mod Naming
pub mod Pairs
pub mod Ranging
