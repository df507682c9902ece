-- Lemmas on profiles.
pub mod ValueLemmas
pub mod StageLemmas
pub mod FirstLemmas
pub mod OrderLemmas
pub mod EmptyLemmas
pub mod PlaceLemmas
pub mod RegionLoop
pub mod CacheLoop
pub mod FaultlessLemmas
pub mod TextLemmas
