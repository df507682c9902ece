-- Caches with LRU sets, and what an access does to a chain of them.
pub mod Chains
pub mod Contents
pub mod Limits
pub mod Sets
pub mod Slots
pub mod Walks
