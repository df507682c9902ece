-- Lemmas of this crate.
pub mod Firsts
pub mod Finds
pub mod Starts
pub mod Overlaps
pub mod Headers
pub mod Numbered
pub mod Segments
pub mod GoodSections
pub mod Reading
pub mod RecordPlaces
pub mod LeastRecord
pub mod LawfulRecords
pub mod More
pub mod StringLemmas
pub mod OnLiterals
