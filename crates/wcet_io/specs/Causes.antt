-- What a count of faults says of a call.
use Rattle.std.specs.Prelude.{ℕ, ◌≤◌, Result, OnErr}
use Rattle.wcet_io.specs.Counts.{raised}

-- The count rose by one or more, or stands at its last value.
abbrev pub Rose : ℕ → ℕ → Type 0
Rose before now = raised before 1 ≤ now

-- The count of faults never falls, and an error comes only where it rose.
pub record HasCause {T E : Type 0} (before now : ℕ) (result : Result T E) : Type 0 where
  pub later : before ≤ now
  pub failed : OnErr result (Rose before now)
