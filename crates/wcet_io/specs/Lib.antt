-- What the contracts of this crate cite.
pub mod Causes
pub mod Counts
pub mod Files
pub mod Fronts
pub mod Gathers
pub mod ShelfView
pub mod Shelved
pub mod SinkView
pub mod Stored
pub mod Sunk
