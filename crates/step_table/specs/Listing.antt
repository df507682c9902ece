-- Lists of the positions to which steps lead, and the search that makes them.
use Rattle.std.specs.Prelude.{◌≡◌, ℕ, ◌<◌, ◌≤◌, List, All, length, Contains, slice_get, Bool, Some}
use Rattle.step_table.specs.Search.{AreApart, IsPassed, IsSeen}
use Rattle.step_table.specs.Table.{IsMet}

-- There is a mark for each of so many positions, and none of them is set.
pub record AreUnmarked (n : ℕ) (marks : List Bool) : Type 0 where
  pub sized : length marks ≡ n
  pub none : (x : ℕ) → IsSeen marks x → ⊥

-- The positions to which steps lead are listed, each once, and nothing else.
pub record ListsMet (table : List (List ℕ)) (starts : List ℕ) (barred : ℕ) (list : List ℕ) : Type 0 where
  pub apart : AreApart list
  pub within : All (λ (x : ℕ). x < length table) list
  pub sound : (x : ℕ) → Contains list x → IsMet table starts barred x
  pub whole : (x : ℕ) → IsMet table starts barred x → Contains list x

-- The search: what is seen is listed, each once, and steps lead to it; the positions that follow the first
-- ones of the list are seen.
pub record IsListed (table : List (List ℕ)) (starts : List ℕ) (barred : ℕ) (seen : List Bool) (list : List ℕ)
    (first : ℕ) : Type 0 where
  pub sized : length seen ≡ length table
  pub begun : (x : ℕ) → Contains starts x → (x ≡ barred → ⊥) → IsSeen seen x
  pub sound : (x : ℕ) → IsSeen seen x → IsMet table starts barred x
  pub known : (x : ℕ) → Contains list x → IsSeen seen x
  pub listed : (x : ℕ) → IsSeen seen x → Contains list x
  pub apart : AreApart list
  pub reached : first ≤ length list
  pub passed : (k x : ℕ) → k < first → slice_get list k ≡ Some x → IsPassed table barred seen x

-- The search has looked at all of the list.
abbrev pub ListsSeen : List (List ℕ) → List ℕ → ℕ → List Bool → List ℕ → Type 0
ListsSeen table starts barred seen list = IsListed table starts barred seen list (length list)
