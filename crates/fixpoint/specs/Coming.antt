-- What becomes of a table and of the waiting places when a state comes to a place.
use Rattle.std.specs.Prelude.{◌≡◌, ℕ, Bool, true, not, if◌then◌else◌, List, Option, Some, slice_set}
use Rattle.domain_laws.specs.Options.{option_joined, option_leq}
use Rattle.fixpoint.specs.Values.{value_of}

-- The state comes to the place: its slot is widened, and the place waits if its state grew.
pub record Comes {D : Type 0} (leq : D → D → Bool) (widened : D → D → D) (place : ℕ) (x : D)
    (values : List (Option D)) (marks : List Bool) (later : List (Option D)) (after : List Bool) : Type 0 where
  pub slot : later ≡ slice_set values place (option_joined widened (value_of values place) (Some x))
  pub mark : after ≡ (if not (option_leq leq (option_joined widened (value_of values place) (Some x)) (value_of values place))
      then slice_set marks place true else marks)
