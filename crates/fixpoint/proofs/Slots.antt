-- Slots of a table of states, and marks of the places that wait.
use Rattle.std.specs.Prelude.{◌≡◌, ℕ, ◌+◌, ◌<◌, ◌≤◌, Bool, true, false, List, length, Option, None, slice_set}
use Rattle.std.proofs.Common.{ap, arith}
use Rattle.std.proofs.lemmas.List.{get_or-set_other, get_or-set_same, set-get_or}
use Rattle.std.proofs.lemmas.List.Sums.{sum_by-set}
use Rattle.domain_laws.specs.Options.{option_rank}
use Rattle.fixpoint.specs.Steps.{one_if, ranks_of, waiting}
use Rattle.fixpoint.specs.Values.{value_of, waits}

pub value_set_same : {D : Type 0} (values : List (Option D)) (place : ℕ) (x : Option D) → place < length values →
    value_of (slice_set values place x) place ≡ x
value_set_same values place x inside = get_or-set_same values place x None inside

pub value_set_other : {D : Type 0} (values : List (Option D)) (place other : ℕ) (x : Option D) → (other ≡ place → ⊥) →
    value_of (slice_set values place x) other ≡ value_of values other
value_set_other values place other x ne = get_or-set_other values place other x None ne

pub value_set_own : {D : Type 0} (values : List (Option D)) (place : ℕ) →
    slice_set values place (value_of values place) ≡ values
value_set_own values place = set-get_or values place None

pub waits_set_same : (marks : List Bool) (place : ℕ) (b : Bool) → place < length marks →
    waits (slice_set marks place b) place ≡ b
waits_set_same marks place b inside = get_or-set_same marks place b false inside

pub waits_set_other : (marks : List Bool) (place other : ℕ) (b : Bool) → (other ≡ place → ⊥) →
    waits (slice_set marks place b) other ≡ waits marks other
waits_set_other marks place other b ne = get_or-set_other marks place other b false ne

-- One more place waits at most, and one fewer after it is taken.
pub waiting_more : (marks : List Bool) (place : ℕ) → place < length marks →
    waiting (slice_set marks place true) ≤ waiting marks + 1
waiting_more marks place inside =
    omega (arith, sum_by-set one_if marks place true false inside)

pub waiting_less : (marks : List Bool) (place : ℕ) → place < length marks → waits marks place ≡ true →
    waiting (slice_set marks place false) + 1 ≤ waiting marks
waiting_less marks place inside there =
    let one : one_if (waits marks place) ≡ 1 = ap one_if there in
    omega (arith, one, sum_by-set one_if marks place false false inside)

-- A state of a lower rank lowers the ranks together.
pub ranks_fall : {D : Type 0} (rank : D → ℕ) (height : ℕ) (values : List (Option D)) (place : ℕ) (x : Option D) →
    place < length values → option_rank rank height x < option_rank rank height (value_of values place) →
    ranks_of rank height (slice_set values place x) + 1 ≤ ranks_of rank height values
ranks_fall rank height values place x inside less =
    omega (arith, less, sum_by-set (option_rank rank height) values place x None inside)
