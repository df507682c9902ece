-- Lemmas of this crate.
pub mod Numbers
pub mod Within
pub mod Chains
pub mod Holds
pub mod Round
pub mod Headers
pub mod OnLiterals
pub mod OnNested
