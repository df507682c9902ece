-- Lemmas on tables of steps.
pub mod Leaving
pub mod Listed
pub mod Meeting
pub mod Places
pub mod Positions
pub mod Reversing
pub mod Ringing
pub mod Seen
