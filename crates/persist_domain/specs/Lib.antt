-- Conflicts of one block in its cache set.
pub mod Laws
pub mod Order
pub mod States
pub mod Touches
