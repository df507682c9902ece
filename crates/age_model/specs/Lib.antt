-- What the accesses of a run do to caches, and to the blocks of one cache set, and what a class table says of it.
pub mod Ages
pub mod Candidates
pub mod Classes
pub mod Moves
pub mod Since
pub mod Views
