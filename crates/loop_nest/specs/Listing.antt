-- The loops of a function in a list, by the positions.
use Rattle.std.specs.Prelude.{◌≡◌, ℕ, ◌<◌, List, length, Contains, AllPairs, Option, Some, None, slice_get}
use Rattle.loop_nest.specs.declared.nest.Loop.{Loop}
use Rattle.loop_nest.specs.declared.listing.Listed.{Listed}
use Rattle.loop_nest.specs.declared.listing.Listed.TheVariants.{Loops, Unbounded}
use Rattle.loop_nest.specs.Bodies.{Holds}

-- The addresses at these positions, rising.
pub record IsListing (addresses positions list : List ℕ) : Type 0 where
  pub rising : AllPairs (λ (a b : ℕ). a < b) list
  pub sound : (a : ℕ) → Contains list a → (k : ℕ) × (slice_get addresses k ≡ Some a) × Contains positions k
  pub whole : (k a : ℕ) → slice_get addresses k ≡ Some a → Contains positions k → Contains list a

-- A position is a header: it has some back arc.
pub record IsHead (sources : List (List ℕ)) (header : ℕ) : Type 0 where
  pub from : List ℕ
  pub there : slice_get sources header ≡ Some from
  pub one : ℕ
  pub some : Contains from one

-- The loop of a header: the addresses of its body, and its bound.
pub record IsLoopAt (addresses : List ℕ) (reverse sources : List (List ℕ)) (bounds : List (Option ℕ)) (header : ℕ)
    (l : Loop) : Type 0 where
  pub address : slice_get addresses header ≡ Some l.header
  pub head : IsHead sources header
  pub rising : AllPairs (λ (a b : ℕ). a < b) l.body
  pub sound : (a : ℕ) → Contains l.body a →
      (k : ℕ) × (slice_get addresses k ≡ Some a) × Holds reverse sources header k
  pub whole : (k a : ℕ) → slice_get addresses k ≡ Some a → Holds reverse sources header k → Contains l.body a
  pub bounded : slice_get bounds header ≡ Some (Some l.bound)

-- The loops of the first headers, each of which has a bound.
pub record AreLoopsAt (addresses : List ℕ) (reverse sources : List (List ℕ)) (bounds : List (Option ℕ)) (done : ℕ)
    (loops : List Loop) : Type 0 where
  pub rising : AllPairs (λ (l m : Loop). l.header < m.header) loops
  pub sound : (l : Loop) → Contains loops l → (header : ℕ) × (header < done) × IsLoopAt addresses reverse sources bounds header l
  pub whole : (header : ℕ) → header < done → IsHead sources header →
      (l : Loop) × Contains loops l × IsLoopAt addresses reverse sources bounds header l

-- The first header without a bound.
pub record IsUnboundedAt (sources : List (List ℕ)) (bounds : List (Option ℕ)) (header : ℕ) : Type 0 where
  pub head : IsHead sources header
  pub none : slice_get bounds header ≡ Some None
  pub first : (earlier : ℕ) → earlier < header → IsHead sources earlier → (bound : ℕ) × (slice_get bounds earlier ≡ Some (Some bound))

-- The loops of all headers, or the first header without a bound.
abbrev pub IsListed : (addresses : List ℕ) → (reverse sources : List (List ℕ)) → (bounds : List (Option ℕ)) → Listed → Type 0
IsListed addresses reverse sources bounds (Loops loops) = AreLoopsAt addresses reverse sources bounds (length sources) loops
IsListed addresses reverse sources bounds (Unbounded header) = IsUnboundedAt sources bounds header
