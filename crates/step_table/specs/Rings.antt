-- Orders of positions in which steps go back, and the marks of the positions that lie on a cycle.
use Rattle.std.specs.Prelude.{◌≡◌, ℕ, ◌+◌, ◌*◌, ◌<◌, ◌≤◌, ◌⊎◌, ◌↔◌, List, [], ◌∷◌, ◌++◌, length, Contains, Some, slice_get, Bool, true, set, sum_by}
use Rattle.step_table.specs.Cycles.{IsCyclic}
use Rattle.step_table.specs.Numbers.{number_of}
use Rattle.step_table.specs.Search.{IsSeen, unseen}
use Rattle.step_table.specs.Table.{IsMet, IsStep}

-- A position may be left after some others: each step from one of these or from itself goes to one of these,
-- to itself, or to a position from which steps lead to it.
pub record IsLeft (table : List (List ℕ)) (before : List ℕ) (last : ℕ) : Type 0 where
  pub there : last < length table
  pub new : Contains before last → ⊥
  pub goes : (from to : ℕ) → Contains (before ++ last ∷ []) from → IsStep table from to →
      Contains (before ++ last ∷ []) to ⊎ IsMet table (to ∷ []) (length table) last

-- Positions each of which may be left after those before it. A search in depth leaves them in such an order,
-- but not each such order is that of a search in depth.
pub data AreLeft (table : List (List ℕ)) : List ℕ → Type 0 where
  begins : AreLeft table []
  more : (before : List ℕ) (last : ℕ) → AreLeft table before → IsLeft table before last →
      AreLeft table (before ++ last ∷ [])

-- All positions of a table, each once, in such an order. Where none lies on a cycle, each step goes to a
-- position that stands earlier.
pub record IsOrder (table : List (List ℕ)) (order : List ℕ) : Type 0 where
  pub left : AreLeft table order
  pub whole : (x : ℕ) → x < length table → Contains order x

-- The trail of a search, on which no position stands twice: steps lead from each one to all behind it.
pub data IsTrail (table : List (List ℕ)) : List ℕ → Type 0 where
  begins : IsTrail table []
  more : (before : List ℕ) (last : ℕ) → IsTrail table before → (Contains before last → ⊥) →
      ((x : ℕ) → Contains before x → IsMet table (x ∷ []) (length table) last) →
      IsTrail table (before ++ last ∷ [])

-- The search in depth: what is seen was left, or is on the trail. The steps of a position are looked at
-- from the last one on, and so many aren't looked at yet.
pub record IsDepth (table : List (List ℕ)) (order : List ℕ) (seen : List Bool) (ahead trail : List ℕ) : Type 0 where
  pub left : AreLeft table order
  pub on : IsTrail table trail
  pub sized : length seen ≡ length table
  pub counted : length ahead ≡ length table
  pub bound : (x : ℕ) (steps : List ℕ) → slice_get table x ≡ Some steps → number_of ahead x ≤ length steps
  pub looked : (x i to : ℕ) (steps : List ℕ) → slice_get table x ≡ Some steps → slice_get steps i ≡ Some to →
      number_of ahead x ≤ i → IsSeen seen to
  pub ended : (x : ℕ) → Contains order x → number_of ahead x ≡ 0
  pub opened : (x : ℕ) → IsSeen seen x → Contains order x ⊎ Contains trail x
  pub known : (x : ℕ) → Contains order x ⊎ Contains trail x → IsSeen seen x
  pub apart : (x : ℕ) → Contains order x → Contains trail x → ⊥

-- What the search has still to do.
abbrev pub effort : List Bool → (ahead trail : List ℕ) → ℕ
effort seen ahead trail = 2 * unseen seen + sum_by (λ n. n) ahead + length trail

-- A position that was seen changes nothing; another one is seen, and put on the trail.
abbrev pub Opens : ℕ → (seen : List Bool) (trail : List ℕ) → (later_seen : List Bool) (later_trail : List ℕ) → Type 0
Opens position seen trail later_seen later_trail =
    (IsSeen seen position × (later_seen ≡ seen) × (later_trail ≡ trail))
    ⊎ ((IsSeen seen position → ⊥) × (later_seen ≡ set seen position true) × (later_trail ≡ trail ++ position ∷ []))

-- All that was seen before is seen later.
abbrev pub KeepsSeen : (seen later : List Bool) → Type 0
KeepsSeen seen later = (x : ℕ) → IsSeen seen x → IsSeen later x

-- One of these positions is seen.
pub record HasSeen (seen : List Bool) (positions : List ℕ) : Type 0 where
  pub one : ℕ
  pub among : Contains positions one
  pub there : IsSeen seen one

-- A position is marked just where it lies on a cycle.
abbrev pub IsMarkedRight : List (List ℕ) → List Bool → ℕ → Type 0
IsMarkedRight table marks x = slice_get marks x ≡ Some true ↔ IsCyclic table x

-- The marks of the positions that lie on a cycle.
pub record AreMarks (table : List (List ℕ)) (marks : List Bool) : Type 0 where
  pub count : length marks ≡ length table
  pub marked : (x : ℕ) → x < length table → IsMarkedRight table marks x
