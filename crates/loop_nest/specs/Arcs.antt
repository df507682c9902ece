-- Which steps are back arcs, by the positions.
use Rattle.std.specs.Prelude.{◌≡◌, ℕ, ◌<◌, ◌≤◌, List, [], ◌∷◌, length, Bool, Some, slice_get}
use Rattle.std.specs.Bool.{OnTrue, OnFalse}
use Rattle.step_table.specs.Numbers.{number_of}
use Rattle.step_table.specs.Table.{IsMet, IsStep}

-- A back arc: its source isn't met from the entry once its header is barred.
pub record IsBack (table : List (List ℕ)) (entry from header : ℕ) : Type 0 where
  pub goes : IsStep table from header
  pub behind : IsMet table (entry ∷ []) header from → ⊥

-- A step to a position whose rank isn't lesser, that is no back arc.
pub record Crosses (table : List (List ℕ)) (entry : ℕ) (ranks : List ℕ) (from header : ℕ) : Type 0 where
  pub goes : IsStep table from header
  pub retreats : number_of ranks from ≤ number_of ranks header
  pub met : IsMet table (entry ∷ []) header from

-- For each of the first positions the back arcs to it.
pub record AreBacksTo (table : List (List ℕ)) (entry done : ℕ) (sources : List (List ℕ)) : Type 0 where
  pub count : length sources ≡ done
  pub sound : (from header : ℕ) → IsStep sources header from → IsBack table entry from header
  pub whole : (from header : ℕ) → header < done → IsBack table entry from header → IsStep sources header from

-- The back arcs of a table.
abbrev pub AreBacks : List (List ℕ) → (entry : ℕ) → (sources : List (List ℕ)) → Type 0
AreBacks table entry sources = AreBacksTo table entry (length table) sources

-- Steps of a table, by their headers, with all back arcs among them.
pub record HaveBacks (table : List (List ℕ)) (entry : ℕ) (steps : List (List ℕ)) : Type 0 where
  pub count : length steps ≡ length table
  pub sound : (from header : ℕ) → IsStep steps header from → IsStep table from header
  pub whole : (from header : ℕ) → IsBack table entry from header → IsStep steps header from

-- Each step to a position whose rank isn't lesser is a back arc.
abbrev pub AreKept : List (List ℕ) → (entry : ℕ) → (ranks : List ℕ) → Type 0
AreKept table entry ranks = (from header : ℕ) → IsStep table from header →
    number_of ranks from ≤ number_of ranks header → IsBack table entry from header

-- For each of the first positions the steps to it from positions with no greater ranks. They are read from
-- the table the other way round.
pub record AreRetreatsTo (reverse : List (List ℕ)) (ranks : List ℕ) (done : ℕ) (sources : List (List ℕ)) : Type 0 where
  pub count : length sources ≡ done
  pub sound : (from header : ℕ) → IsStep sources header from → IsStep reverse header from
  pub retreats : (from header : ℕ) → IsStep sources header from → number_of ranks from ≤ number_of ranks header
  pub whole : (from header : ℕ) → header < done → IsStep reverse header from →
      number_of ranks from ≤ number_of ranks header → IsStep sources header from

-- For each position the steps to it from positions with no greater ranks.
abbrev pub AreRetreats : (reverse : List (List ℕ)) → (ranks : List ℕ) → (sources : List (List ℕ)) → Type 0
AreRetreats reverse ranks sources = AreRetreatsTo reverse ranks (length reverse) sources

-- A way leads from the entry to a source of a header, and misses the header: it is found from the source backwards.
pub record IsPassedBy (reverse sources : List (List ℕ)) (entry header : ℕ) : Type 0 where
  pub from : List ℕ
  pub there : slice_get sources header ≡ Some from
  pub met : IsMet reverse from header entry

-- Whether no header is passed by.
abbrev pub AreUnpassed : (reverse sources : List (List ℕ)) → (entry : ℕ) → Bool → Type 0
AreUnpassed reverse sources entry none =
    OnTrue none ((header : ℕ) → IsPassedBy reverse sources entry header → ⊥)
    × OnFalse none ((header : ℕ) × IsPassedBy reverse sources entry header)
