-- Lemmas on spans.
pub mod AddedSpans
pub mod BitSpans
pub mod HeldNumbers
pub mod LessSpans
pub mod ResultSpans
pub mod ShiftedSpans
pub mod SignedValues
pub mod Wholes
