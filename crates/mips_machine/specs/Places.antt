-- Where the region of an access stands.
use Rattle.std.specs.Prelude.{◌≡◌, ℕ, ◌<◌, Bool, true, false, List, length, slice_index_or}
use Rattle.mips_decode.specs.State.{Region, covers}

-- The first region that passes a test stands at this place.
pub record StandsAt (test : Region → Bool) (regions : List Region) (place : ℕ) : Type 0 where
  pub inside : place < length regions
  pub passes : (other : Region) → test (slice_index_or regions place other) ≡ true
  pub before : (earlier : ℕ) (other : Region) → earlier < place → test (slice_index_or regions earlier other) ≡ false

-- The region at this place is the only one that can cover the address.
pub record IsOnlyPlace (address : ℕ) (regions : List Region) (place : ℕ) : Type 0 where
  pub inside : place < length regions
  pub only : (other : ℕ) (d : Region) → other < length regions → covers address 1 (slice_index_or regions other d) ≡ true → other ≡ place
