-- Lemmas on lattices.
pub mod Places
pub mod Setting
pub mod Passes
pub mod SetPlaces
