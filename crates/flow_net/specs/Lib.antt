-- What the contracts on the net of a program say.
pub mod Numbers
pub mod Letters
pub mod Scopes
pub mod Entering
pub mod Paths
pub mod Nested
pub mod Visits
