-- Lemmas on rings, and on the lists that they stand for.
pub mod Calls
pub mod Leading
pub mod Members
pub mod Ringing
pub mod Standing
