-- What the steps of the solver do to a table and the waiting places.
use Rattle.std.specs.Prelude.{◌≡◌, ℕ, ◌+◌, ◌*◌, ◌<◌, ◌≤◌, Bool, true, false, List, [], ◌∷◌, length, Option, None, Some}
use Rattle.std.specs.List.{sum_by}
use Rattle.std.proofs.Common.{◌⊎◌}
use Rattle.domain_laws.specs.Options.{option_ok, option_leq, option_rank}
use Rattle.flow_net.specs.Numbers.{item_at}
use Rattle.flow_net.specs.declared.net.NetArc.{NetArc}
use Rattle.fixpoint.specs.Coming.{Comes}
use Rattle.fixpoint.specs.Solved.{IsKept, PassesFirst}
use Rattle.fixpoint.specs.Values.{value_of, waits, Passes}

-- How many places wait.
abbrev pub one_if : Bool → ℕ
one_if true = 1
one_if false = 0

abbrev pub waiting : List Bool → ℕ
waiting marks = sum_by one_if marks

-- The ranks of all states together.
abbrev pub ranks_of : {D : Type 0} → (D → ℕ) → ℕ → List (Option D) → ℕ
ranks_of rank height values = sum_by (option_rank rank height) values

-- A later table and its waiting places: states only rise, and those that changed wait.
pub record Follows {D : Type 0} (P : D → Type 0) (leq : D → D → Bool) (rank : D → ℕ) (height : ℕ)
    (values : List (Option D)) (marks : List Bool) (later : List (Option D)) (after : List Bool) : Type 0 where
  pub size : length later ≡ length values
  pub sizes : length after ≡ length marks
  pub shaped : (place : ℕ) → option_ok P (value_of later place)
  pub grows : (place : ℕ) → option_leq leq (value_of values place) (value_of later place) ≡ true
  pub same : (place : ℕ) → waits after place ≡ false → value_of later place ≡ value_of values place
  pub keeps : (place : ℕ) → waits marks place ≡ true → waits after place ≡ true
  pub there : ((place : ℕ) → waits marks place ≡ true → value_of values place ≡ None → ⊥) →
      (place : ℕ) → waits after place ≡ true → value_of later place ≡ None → ⊥
  pub placed : ((place : ℕ) → waits marks place ≡ true → 0 < place) → (place : ℕ) → waits after place ≡ true → 0 < place
  pub falls : 2 * ranks_of rank height later + waiting after ≤ 2 * ranks_of rank height values + waiting marks

-- What holds of the table and the waiting places between two turns.
pub record Holds {D : Type 0} (P : D → Type 0) (leq : D → D → Bool) (widened : D → D → D) (stepped moved : ℕ → D → D)
    (arcs : List NetArc) (slots : ℕ) (start : D) (values : List (Option D)) (marks : List Bool) : Type 0 where
  pub size : length values ≡ slots
  pub sizes : length marks ≡ slots
  pub shaped : (place : ℕ) → option_ok P (value_of values place)
  pub queued : (place : ℕ) → waits marks place ≡ true → value_of values place ≡ None → ⊥
  pub placed : (place : ℕ) → waits marks place ≡ true → 0 < place
  pub begun : (arc : NetArc) → item_at 1 arcs ≡ Some arc → option_leq leq (Some start) (value_of values arc.to) ≡ true
  pub settled : (number : ℕ) (arc : NetArc) (x : D) → item_at number arcs ≡ Some arc → 0 < arc.from → 0 < arc.to →
      value_of values arc.from ≡ Some x → waits marks arc.from ≡ false →
      option_leq leq (Some (moved number (stepped arc.from x))) (value_of values arc.to) ≡ true
  pub tests : (test : ℕ → D → Bool) → IsKept P widened stepped moved arcs test → PassesFirst arcs start test →
      Passes test values

-- The outcome of a place has come along an arc.
abbrev pub HasCome : {D : Type 0} → (D → D → Bool) → (ℕ → D → D) → List NetArc → D → List (Option D) → ℕ → Type 0
HasCome leq moved arcs after values number = (arc : NetArc) → item_at number arcs ≡ Some arc → 0 < arc.to →
    option_leq leq (Some (moved number after)) (value_of values arc.to) ≡ true

-- The number is in the list.
abbrev pub IsIn : ℕ → List ℕ → Type 0
IsIn number [] = ⊥
IsIn number (other ∷ others) = (number ≡ other) ⊎ IsIn number others

-- What one arc does: nothing where it leaves the run, else the outcome comes to its end.
pub record Along {D : Type 0} (leq : D → D → Bool) (widened : D → D → D) (moved : ℕ → D → D) (arcs : List NetArc)
    (number : ℕ) (after : D) (values : List (Option D)) (marks : List Bool) (later : List (Option D)) (left : List Bool) : Type 0 where
  pub arc : NetArc
  pub at : item_at number arcs ≡ Some arc
  pub ends : ((arc.to ≡ 0) × (later ≡ values) × (left ≡ marks)) ⊎
      ((0 < arc.to) × Comes leq widened arc.to (moved number after) values marks later left)

-- The arcs so far have brought the outcome of a place.
pub record IsSpread {D : Type 0} (P : D → Type 0) (leq : D → D → Bool) (widened : D → D → D) (rank : D → ℕ) (height : ℕ)
    (moved : ℕ → D → D) (arcs : List NetArc) (after : D) (numbers rest : List ℕ)
    (values : List (Option D)) (marks : List Bool) (later : List (Option D)) (left : List Bool) : Type 0 where
  pub follows : Follows P leq rank height values marks later left
  pub come : (number : ℕ) → IsIn number numbers → IsIn number rest ⊎ HasCome leq moved arcs after later number
  pub passed : (test : ℕ → D → Bool) →
      ((q : ℕ) (y z : D) → P y → P z → test q y ≡ true → test q z ≡ true → test q (widened y z) ≡ true) →
      ((number : ℕ) (arc : NetArc) → IsIn number numbers → item_at number arcs ≡ Some arc → 0 < arc.to →
      test arc.to (moved number after) ≡ true) →
      Passes test values → Passes test later
