-- What the loops of a program's functions say.
pub mod Arcs
pub mod Bodies
pub mod Bounds
pub mod Cycles
pub mod Listing
pub mod Nests
pub mod Plans
pub mod Programs
pub mod Ranks
pub mod Table
