-- What the contracts of this crate cite.
pub mod Region
pub mod Image
pub mod Clash
pub mod Index
pub mod Places
pub mod Passing
pub mod Tallies
pub mod Machine
pub mod Run
pub mod Units
