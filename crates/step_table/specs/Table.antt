-- Steps between positions, counted from 0, and positions of addresses.
use Rattle.std.specs.Prelude.{◌≡◌, ℕ, ◌<◌, ◌⊎◌, ◌↔◌, List, [], ◌∷◌, length, All, Contains, Option, Some, None, slice_get}

-- A position follows another one in the table, which has for each position the list of what follows.
pub record IsStep (table : List (List ℕ)) (from to : ℕ) : Type 0 where
  pub steps : List ℕ
  pub there : slice_get table from ≡ Some steps
  pub goes : Contains steps to

-- Each position that follows is one of the table.
abbrev pub IsWithin : List (List ℕ) → Type 0
IsWithin table = All (λ steps. All (λ to. to < length table) steps) table

-- The positions to which steps lead from some positions, these among them, without coming to the barred
-- one.
pub data IsMet (table : List (List ℕ)) (starts : List ℕ) (barred : ℕ) : ℕ → Type 0 where
  begins : (start : ℕ) → Contains starts start → (start ≡ barred → ⊥) → IsMet table starts barred start
  goes : (from to : ℕ) → IsMet table starts barred from → IsStep table from to → (to ≡ barred → ⊥) →
      IsMet table starts barred to

-- Steps lead from the entry to all positions.
abbrev pub AreMet : List (List ℕ) → ℕ → Type 0
AreMet table entry = (x : ℕ) → x < length table → IsMet table (entry ∷ []) (length table) x

-- The address at a position is one of these.
abbrev pub IsNamed : (addresses onward : List ℕ) → ℕ → Type 0
IsNamed addresses onward to = (address : ℕ) × (slice_get addresses to ≡ Some address) × Contains onward address

-- The steps to these addresses are just the positions at which they stand.
abbrev pub AreStepsTo : (addresses onward steps : List ℕ) → Type 0
AreStepsTo addresses onward steps = (to : ℕ) → Contains steps to ↔ IsNamed addresses onward to

-- The position of an address.
abbrev pub IsPosition : (addresses : List ℕ) → ℕ → Option ℕ → Type 0
IsPosition addresses address None = Contains addresses address → ⊥
IsPosition addresses address (Some position) = slice_get addresses position ≡ Some address

-- One item is added to the lists at some places.
pub record Joins (lists : List (List ℕ)) (places : List ℕ) (item : ℕ) (later : List (List ℕ)) : Type 0 where
  pub count : length later ≡ length lists
  pub kept : (from to : ℕ) → IsStep lists from to → IsStep later from to
  pub there : (from : ℕ) → Contains places from → IsStep later from item
  pub only : (from to : ℕ) → IsStep later from to → IsStep lists from to ⊎ (Contains places from × (to ≡ item))

-- A table has the steps of another one, the other way round.
pub record IsReverse (table reverse : List (List ℕ)) : Type 0 where
  pub count : length reverse ≡ length table
  pub back : (from to : ℕ) → IsStep table from to → IsStep reverse to from
  pub only : (from to : ℕ) → IsStep reverse from to → IsStep table to from
