-- Lemmas on known words.
pub mod CoveredWords
pub mod FilteredWords
pub mod RisenWords
pub mod RisingStores
pub mod StoredWords
pub mod LoadedWords
pub mod MemoryWords
pub mod WordLists
