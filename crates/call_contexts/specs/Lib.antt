-- What the net of a program says of it.
pub mod Sizes
pub mod Programs
pub mod Counting
pub mod Counted
pub mod Expansion
pub mod Layout
-- Places and arcs.
pub mod Spots
pub mod Arcs
pub mod Accesses
-- Loop instances and scopes.
pub mod Around
pub mod Instances
