-- The bodies of headers, and which of the headers is the innermost one, by the positions.
use Rattle.std.specs.Prelude.{◌≡◌, ℕ, ◌<◌, ◌≤◌, ◌⊎◌, List, All, length, Contains, Option, Some, None, slice_get}
use Rattle.step_table.specs.Numbers.{number_of}
use Rattle.step_table.specs.Search.{AreApart}
use Rattle.step_table.specs.Table.{IsMet}

-- The body of a header, each position once: itself, and what is met from the sources of its back arcs
-- backwards, without it.
pub record IsBody (reverse : List (List ℕ)) (sources : List ℕ) (header : ℕ) (body : List ℕ) : Type 0 where
  pub apart : AreApart body
  pub within : All (λ (x : ℕ). x < length reverse) body
  pub sound : (x : ℕ) → Contains body x → (x ≡ header) ⊎ IsMet reverse sources header x
  pub head : Contains body header
  pub whole : (x : ℕ) → IsMet reverse sources header x → Contains body x

-- A header, with some back arc, holds a position.
pub record Holds (reverse sources : List (List ℕ)) (header position : ℕ) : Type 0 where
  pub from : List ℕ
  pub there : slice_get sources header ≡ Some from
  pub one : ℕ
  pub some : Contains from one
  pub held : (position ≡ header) ⊎ IsMet reverse from header position

-- Of the first headers that hold a position, the one with the least rank, or none.
abbrev pub IsInner : (reverse sources : List (List ℕ)) → (ranks : List ℕ) → (done position : ℕ) → Option ℕ → Type 0
IsInner reverse sources ranks done position None =
    (header : ℕ) → header < done → Holds reverse sources header position → ⊥
IsInner reverse sources ranks done position (Some header) =
    (header < done) × Holds reverse sources header position
    × ((other : ℕ) → other < done → Holds reverse sources other position → number_of ranks header ≤ number_of ranks other)

-- For each position the innermost of the first headers.
pub record AreInner (reverse sources : List (List ℕ)) (ranks : List ℕ) (done : ℕ) (innermost : List (Option ℕ)) : Type 0 where
  pub count : length innermost ≡ length reverse
  pub each : (position : ℕ) (found : Option ℕ) → slice_get innermost position ≡ Some found →
      IsInner reverse sources ranks done position found

-- The one of two headers with the lesser rank.
abbrev pub IsLesser : (ranks : List ℕ) → (header : ℕ) → Option ℕ → Option ℕ → Type 0
IsLesser ranks header None found = found ≡ Some header
IsLesser ranks header (Some other) found =
    ((found ≡ Some other) × (number_of ranks other ≤ number_of ranks header))
    ⊎ ((found ≡ Some header) × (number_of ranks header ≤ number_of ranks other))

-- What stands at a position once one more header has noted itself at those of its body.
abbrev pub IsNoted : (body : List ℕ) → (ranks : List ℕ) → (header position : ℕ) → (before found : Option ℕ) → Type 0
IsNoted body ranks header position before found =
    (Contains body position × IsLesser ranks header before found)
    ⊎ ((Contains body position → ⊥) × (before ≡ found))

-- One more header has noted itself at the positions of its body, and nowhere else.
pub record AreNoted (body : List ℕ) (ranks : List ℕ) (header : ℕ) (before later : List (Option ℕ)) : Type 0 where
  pub count : length later ≡ length before
  pub each : (position : ℕ) (found : Option ℕ) → slice_get later position ≡ Some found →
      (old : Option ℕ) × (slice_get before position ≡ Some old) × IsNoted body ranks header position old found

-- Each header that is named is a position.
abbrev pub AreBelow : ℕ → List (Option ℕ) → Type 0
AreBelow n innermost = (position header : ℕ) → slice_get innermost position ≡ Some (Some header) → header < n
