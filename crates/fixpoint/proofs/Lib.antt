-- Lemmas on the solver.
pub mod Slots
pub mod Arriving
pub mod Turns
pub mod Spreading
pub mod Running
pub mod Endings
pub mod Queuing
pub mod OnLiteral
pub mod UpwardNets
