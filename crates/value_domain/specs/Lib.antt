pub mod Spans
pub mod Divisors
pub mod Order
pub mod Results
pub mod DivisorLemmas
pub mod OrderLemmas
pub mod LatticeLaws
