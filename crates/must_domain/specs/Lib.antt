-- Upper ages of the blocks of one cache set.
pub mod Changes
pub mod Laws
pub mod Order
pub mod States
pub mod Touches
