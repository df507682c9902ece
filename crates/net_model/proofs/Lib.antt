-- Laws of units: what a step of the machine does at one, what functions reach, and when two images have the same code.
pub mod Functions
pub mod SameCode
pub mod SameNets
pub mod Contents
pub mod UnitFaults
pub mod Zero
pub mod Ways
pub mod Steps
pub mod UnitAccesses
pub mod RunPaths
