-- What an image's code means as a graph.
pub mod Units
pub mod Onward
pub mod Targets
pub mod Flow
pub mod Functions
pub mod Faults
pub mod Loops
pub mod Contexts
pub mod Places
pub mod Instances
pub mod Accesses
pub mod Net
pub mod Runs
pub mod Moments
pub mod Walks
pub mod Claims
