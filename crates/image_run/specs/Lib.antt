-- What the contracts of this crate cite.
pub mod Ranges
pub mod Verdicts
pub mod Links
pub mod Road
pub mod Turns
pub mod Reports
pub mod Course
