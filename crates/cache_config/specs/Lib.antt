-- What the contracts on profiles say.
pub mod Limits
pub mod Chains
pub mod Keys
pub mod Values
pub mod Spans
pub mod Caches
pub mod Faults
pub mod Rows
pub mod Joints
pub mod Firsts
pub mod Profiles
pub mod Defaults
pub mod Instructions
