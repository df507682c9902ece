-- Which counts a program allows, and their value.
use Rattle.std.specs.Prelude.{◌≡◌, ℕ, suc, ◌<◌, ◌≤◌, ◌==◌, ◌-◌, ◌&&◌, Bool, true, false, ℤ, pos, ◌+ℤ◌, ◌*ℤ◌, ◌≤ℤ◌, List, [], ◌∷◌, All, AllPairs, Option, Some, None, sum_by, count_by, if◌then◌else◌}
use Rattle.flow_net.specs.Numbers.{item_at}
use Rattle.flow_net.specs.declared.net.NetArc.{NetArc}
use Rattle.net_model.specs.Claims.{misses}
use Rattle.net_model.specs.Moments.{arcs_of, Moment}
use Rattle.net_model.specs.Moments.Moment.{Makes, Takes}
use Rattle.ipet_program.specs.declared.certificate.Count.{Count}
use Rattle.ipet_program.specs.declared.program.Program.{Program}
use Rattle.ipet_program.specs.declared.program.Row.{Row}
use Rattle.ipet_program.specs.declared.program.Stage.{Stage}
use Rattle.ipet_program.specs.declared.program.Term.{Term}

-- The sum of a row: each factor times the count of its column.
abbrev pub row_sum : (ℕ → ℕ) → List Term → ℤ
row_sum counts [] = pos 0
row_sum counts (term ∷ more) = term.factor *ℤ pos (counts term.column) +ℤ row_sum counts more

abbrev pub IsMetBy : (equal : Bool) → (sum right : ℤ) → Type 0
IsMetBy true sum right = sum ≡ right
IsMetBy false sum right = sum ≤ℤ right

abbrev pub IsMet : (ℕ → ℕ) → Row → Type 0
IsMet counts row = IsMetBy row.equal (row_sum counts row.terms) row.right

-- Counts are feasible where they meet each row. They are whole numbers from 0 up, one for each column.
abbrev pub IsFeasible : Program → (ℕ → ℕ) → Type 0
IsFeasible program counts = All (IsMet counts) program.rows

-- The value of counts: the sum of count times value, from a column on.
abbrev pub value_from : ℕ → (ℕ → ℕ) → List ℤ → ℤ
value_from column counts [] = pos 0
value_from column counts (value ∷ more) =
    value *ℤ pos (counts column) +ℤ value_from (suc column) counts more

abbrev pub value_of : Program → (ℕ → ℕ) → ℤ
value_of program counts = value_from 1 counts program.value

-- Counts of the greatest value: they are feasible, and no feasible counts exceed them.
pub record IsGreatest (program : Program) (counts : ℕ → ℕ) : Type 0 where
  pub feasible : IsFeasible program counts
  pub greatest : (other : ℕ → ℕ) → IsFeasible program other → value_of program other ≤ℤ value_of program counts

-- The count of a column by a list; 0 where none is listed.
abbrev pub listed : List Count → ℕ → ℕ
listed [] column = 0
listed (count ∷ more) column = if count.column == column then count.number else listed more column

-- The listed counts name columns of the program.
abbrev pub NamesColumns : Program → List Count → Type 0
NamesColumns program counts = All (λ count. (1 ≤ count.column) × (count.column ≤ program.columns)) counts

-- Listed counts are those of a value: they name columns, are feasible and have the value.
pub record AreCounts (program : Program) (counts : List Count) (value : ℕ) : Type 0 where
  pub named : NamesColumns program counts
  pub feasible : IsFeasible program (listed counts)
  pub reached : value_of program (listed counts) ≡ pos value

-- The columns of listed counts rise.
abbrev pub Rise : List Count → Type 0
Rise counts = AllPairs (λ count other. count.column < other.column) counts

-- An arc costs what the place costs that it goes to.
abbrev pub arc_cost : (ℕ → ℕ) → Option NetArc → ℕ
arc_cost price None = 0
arc_cost price (Some arc) = price arc.to

-- The cost of a path: that of its arcs together.
abbrev pub path_cost : (ℕ → ℕ) → List NetArc → List ℕ → ℕ
path_cost price arcs numbers = sum_by (λ number. arc_cost price (item_at number arcs)) numbers

-- The cycles of a run that does these things, in order.
abbrev pub cycles_along : (ℕ → ℕ) → List NetArc → List Moment → ℕ
cycles_along price arcs moments = path_cost price arcs (arcs_of moments)

-- An access goes on to a stage: it is the stage's own, and misses at the cache before it.
abbrev pub goes_on_to : Option Stage → (access caches : ℕ) (hit : Bool) → Bool
goes_on_to None access caches hit = false
goes_on_to (Some stage) access caches hit = (access == stage.access) && misses stage.level caches hit

-- Whether what the run does counts for a column. The first columns are those of the arcs: the run takes the arc of
-- that number. Then come those of the further stages: an access goes on to the stage. (The first stage of an access
-- has its latency in the value of the arc to its place.)
abbrev pub counts_for : (arcs : ℕ) → List Stage → (column : ℕ) → Moment → Bool
counts_for arcs stages column (Takes arc) = arc == column
counts_for arcs stages column (Makes access address caches hit) =
    goes_on_to (item_at (column - arcs) stages) access caches hit

-- The counts of a run: for each column, how often it counts. They are feasible for the program of the net, and
-- their value is the run's cycles (`run-counts` of proofs/RunCounts.antt).
abbrev pub counts_of : (arcs : ℕ) → List Stage → List Moment → ℕ → ℕ
counts_of arcs stages moments column = count_by (counts_for arcs stages column) moments
