-- Laws of caches along the moments of a run, and of the ages of the blocks of one cache set.
pub mod Ages
pub mod Doubts
pub mod Holding
pub mod LowerAges
pub mod Since
pub mod Stepping
pub mod Views
pub mod Visited
pub mod Sights
