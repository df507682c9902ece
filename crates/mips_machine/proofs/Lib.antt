-- The lemmas of this crate.
pub mod LeastLemmas
pub mod PlaceLemmas
pub mod IndexLemmas
pub mod ApartLemmas
pub mod SpanLemmas
pub mod AccessLemmas
pub mod EffectLemmas
pub mod FillLemmas
pub mod StartLemmas
pub mod TallyLemmas
pub mod CodeLemmas
pub mod KeptCode
pub mod RunLemmas
