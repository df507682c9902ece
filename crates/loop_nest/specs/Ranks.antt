-- How a search in depth numbers positions, and what is known of the numbers.
use Rattle.std.specs.Prelude.{◌≡◌, ℕ, ◌+◌, ◌*◌, ◌<◌, ◌≤◌, ◌==◌, ◌⊎◌, List, length, slice_get, Some, count_by}
use Rattle.step_table.specs.Numbers.{number_of}
use Rattle.step_table.specs.Table.{IsStep}

-- A trail leads from the entry to a position, and no number on it lies below the floor.
pub data IsHigh (table : List (List ℕ)) (numbers : List ℕ) (floor entry : ℕ) : ℕ → Type 0 where
  begins : floor ≤ number_of numbers entry → IsHigh table numbers floor entry entry
  goes : (from to : ℕ) → IsHigh table numbers floor entry from → IsStep table from to →
      floor ≤ number_of numbers to → IsHigh table numbers floor entry to

-- The second number is the lesser one, and not 0.
abbrev pub Falls : List ℕ → ℕ → ℕ → Type 0
Falls numbers from to = (0 < number_of numbers to) × (number_of numbers to < number_of numbers from)

-- A trail leads from one position to another one, and the numbers fall along it.
pub data IsFalling (table : List (List ℕ)) (numbers : List ℕ) (start : ℕ) : ℕ → Type 0 where
  begins : IsFalling table numbers start start
  goes : (from to : ℕ) → IsFalling table numbers start from → IsStep table from to →
      Falls numbers from to → IsFalling table numbers start to

-- A step falls, or its source lies on a falling trail from its target.
abbrev pub IsSettled : List (List ℕ) → List ℕ → ℕ → ℕ → Type 0
IsSettled table numbers from to =
    (0 < number_of numbers to)
    × ((number_of numbers to < number_of numbers from) ⊎ IsFalling table numbers to from)

-- The ranks of the positions, of which no two have the same one: a trail without lesser ranks leads to
-- each of them, and each step falls, or a falling trail leads from its target back to its source.
pub record AreRanks (table : List (List ℕ)) (entry : ℕ) (ranks : List ℕ) : Type 0 where
  pub count : length ranks ≡ length table
  pub bound : (position : ℕ) → number_of ranks position ≤ length table
  pub ranked : (position : ℕ) → position < length table → 0 < number_of ranks position
  pub distinct : (position other : ℕ) → 0 < number_of ranks position →
      number_of ranks position ≡ number_of ranks other → position ≡ other
  pub high : (position : ℕ) → position < length table → IsHigh table ranks (number_of ranks position) entry position
  pub settled : (from to : ℕ) → from < length table → IsStep table from to → IsSettled table ranks from to

-- A position has its rank.
abbrev pub IsRanked : List ℕ → (count position : ℕ) → Type 0
IsRanked numbers count position = (0 < number_of numbers position) × (number_of numbers position ≤ count)

-- A position on the trail, with its place there; the numbers fall along the trail.
pub record IsPlaced (top : ℕ) (numbers trail : List ℕ) (position : ℕ) : Type 0 where
  pub place : ℕ
  pub there : slice_get trail place ≡ Some position
  pub number : number_of numbers position + place ≡ top

-- The search: 0 is the number of a position that it hasn't come to. The positions of the trail follow one
-- another, and have numbers above all ranks. The steps of the positions with ranks are settled.
pub record IsWalk (table : List (List ℕ)) (entry : ℕ) (numbers : List ℕ) (count : ℕ) (trail : List ℕ) : Type 0 where
  pub sized : length numbers ≡ length table
  pub counted : length trail + count + count_by (λ n. n == 0) numbers ≡ length table
  pub begun : 0 < number_of numbers entry
  pub first : (position : ℕ) → slice_get trail 0 ≡ Some position → entry ≡ position
  pub steps : (place from to : ℕ) → slice_get trail place ≡ Some from → slice_get trail (place + 1) ≡ Some to →
      IsStep table from to
  pub placed : (place position : ℕ) → slice_get trail place ≡ Some position →
      number_of numbers position + place ≡ 2 * length table
  pub low : (position : ℕ) → (number_of numbers position ≤ count) ⊎ IsPlaced (2 * length table) numbers trail position
  pub distinct : (position other : ℕ) → 0 < number_of numbers position →
      number_of numbers position ≡ number_of numbers other → position ≡ other
  pub high : (position : ℕ) → IsRanked numbers count position →
      IsHigh table numbers (number_of numbers position) entry position
  pub settled : (from to : ℕ) → IsRanked numbers count from → IsStep table from to → IsSettled table numbers from to

-- The search has come to the first positions of a list, so many of them.
abbrev pub ArePassed : (numbers positions : List ℕ) → (count : ℕ) → Type 0
ArePassed numbers positions count =
    (i to : ℕ) → slice_get positions i ≡ Some to → i < count → 0 < number_of numbers to

-- Of each position so many steps were looked at: the search has come to where they lead.
pub record AreLooked (table : List (List ℕ)) (numbers looked : List ℕ) : Type 0 where
  pub count : length looked ≡ length table
  pub passed : (x : ℕ) (steps : List ℕ) → slice_get table x ≡ Some steps → ArePassed numbers steps (number_of looked x)

-- Each position that has a number keeps having one.
abbrev pub KeepsNumbers : (numbers later : List ℕ) → Type 0
KeepsNumbers numbers later = (x : ℕ) → 0 < number_of numbers x → 0 < number_of later x
