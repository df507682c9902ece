-- Lemmas on the slots of a cache, on touches, and on chains of caches.
pub mod Kept
pub mod Moving
pub mod Ordering
pub mod Slotted
pub mod Touching
pub mod Walking
