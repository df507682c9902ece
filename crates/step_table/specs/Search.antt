-- How a search over a table of steps stands: which positions were seen, and which of them still wait to
-- be looked at.
use Rattle.std.specs.Prelude.{◌≡◌, ℕ, ◌+◌, ◌⊎◌, List, length, Contains, AllPairs, slice_get, Bool, true, not, Some, count_by}
use Rattle.step_table.specs.Table.{IsMet, IsStep}

-- A position was seen.
abbrev pub IsSeen : List Bool → ℕ → Type 0
IsSeen seen position = slice_get seen position ≡ Some true

-- How many positions weren't seen yet.
abbrev pub unseen : List Bool → ℕ
unseen seen = count_by not seen

-- Each position stands in the list once.
abbrev pub AreApart : List ℕ → Type 0
AreApart positions = AllPairs (λ (x y : ℕ). x ≡ y → ⊥) positions

-- The positions but the barred one are seen, and those wait that weren't seen before.
pub record Sees (positions : List ℕ) (barred : ℕ) (seen : List Bool) (waiting : List ℕ)
    (later_seen : List Bool) (later_waiting : List ℕ) : Type 0 where
  pub count : length later_seen ≡ length seen
  pub kept : (x : ℕ) → IsSeen seen x → IsSeen later_seen x
  pub there : (x : ℕ) → Contains positions x → (x ≡ barred → ⊥) → IsSeen later_seen x
  pub only : (x : ℕ) → IsSeen later_seen x → IsSeen seen x ⊎ (Contains positions x × (x ≡ barred → ⊥))
  pub still : (x : ℕ) → Contains waiting x → Contains later_waiting x
  pub front : (k x : ℕ) → slice_get waiting k ≡ Some x → slice_get later_waiting k ≡ Some x
  pub apart : ((x : ℕ) → Contains waiting x → IsSeen seen x) → AreApart waiting → AreApart later_waiting
  pub new : (x : ℕ) → IsSeen later_seen x → IsSeen seen x ⊎ Contains later_waiting x
  pub known : (x : ℕ) → Contains later_waiting x → Contains waiting x ⊎ IsSeen later_seen x
  pub counted : unseen later_seen + length later_waiting ≡ unseen seen + length waiting

-- All positions that follow one are seen, but for the barred one.
abbrev pub IsPassed : List (List ℕ) → (barred : ℕ) → (seen : List Bool) → ℕ → Type 0
IsPassed table barred seen from = (to : ℕ) → IsStep table from to → (to ≡ barred → ⊥) → IsSeen seen to

-- The search from some positions: they are seen; to each position that is seen steps lead; each waiting
-- one is seen; and each seen one waits, or its steps are seen.
pub record IsSearch (table : List (List ℕ)) (starts : List ℕ) (barred : ℕ) (seen : List Bool)
    (waiting : List ℕ) : Type 0 where
  pub count : length seen ≡ length table
  pub begun : (x : ℕ) → Contains starts x → (x ≡ barred → ⊥) → IsSeen seen x
  pub sound : (x : ℕ) → IsSeen seen x → IsMet table starts barred x
  pub known : (x : ℕ) → Contains waiting x → IsSeen seen x
  pub done : (x : ℕ) → IsSeen seen x → Contains waiting x ⊎ IsPassed table barred seen x

-- The positions to which steps lead are seen, and nothing else.
pub record SeesMet (table : List (List ℕ)) (starts : List ℕ) (barred : ℕ) (seen : List Bool) : Type 0 where
  pub count : length seen ≡ length table
  pub sound : (x : ℕ) → IsSeen seen x → IsMet table starts barred x
  pub whole : (x : ℕ) → IsMet table starts barred x → IsSeen seen x
