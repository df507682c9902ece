-- The units of a program's code, and the records of targets by which they go on.
pub mod Sets
pub mod Targets
pub mod Transfers
pub mod Ways
