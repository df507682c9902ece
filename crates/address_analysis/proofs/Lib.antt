-- Lemmas on ranges.
pub mod OwnRanges
