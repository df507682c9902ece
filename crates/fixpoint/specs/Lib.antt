-- What the contracts on the solver say.
pub mod Values
pub mod Coming
pub mod Queues
pub mod Solved
pub mod Steps
pub mod Upward
