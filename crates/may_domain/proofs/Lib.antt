-- Lemmas on lower ages.
pub mod Changing
pub mod Doubted
pub mod DoubtedOrder
pub mod Doubting
pub mod Joining
pub mod Touching
