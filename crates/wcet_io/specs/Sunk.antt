-- A sink in memory, and what its calls do.
use Rattle.std.specs.Prelude.{ℕ, ◌-◌, ◌≤◌, ◌⊎◌, List, [], ◌++◌, length, take, min, Contains, Result, Ok, Err}
use Rattle.wcet_io.specs.Counts.{raised}

-- The most bytes of one call and of all, the numbers of the calls that fail, the bytes taken, and
-- the two counts.
pub record Sunk : Type 0 where
  pub step : ℕ
  pub room : ℕ
  pub failing : List ℕ
  pub bytes : List ℕ
  pub calls : ℕ
  pub faults : ℕ

-- A sink that holds nothing and wasn't called yet.
abbrev pub new_sink : ℕ → ℕ → List ℕ → Sunk
new_sink step room failing = record {
  step = step;
  room = room;
  failing = failing;
  bytes = [];
  calls = 0;
  faults = 0;
}

-- The next call of `put` fails: its number is one of the failing ones, or no room is left.
abbrev pub FailsNext : Sunk → Type 0
FailsNext sink = Contains sink.failing (raised sink.calls 1) ⊎ (sink.room ≤ length sink.bytes)

-- How many bytes of a piece a call takes: a step's, the piece's or the room's, whichever is least.
abbrev pub put_size : Sunk → ℕ → ℕ
put_size sink size = min sink.step (min size (sink.room - length sink.bytes))

-- After `put`: each call counts, a failure as a fault, and what was taken stands at the end.
abbrev pub after_put : {E : Type 0} → Result ℕ E → List ℕ → Sunk → Sunk
after_put (Ok n) piece sink =
    record sink { calls = raised sink.calls 1; bytes = sink.bytes ++ take n piece }
after_put (Err e) piece sink =
    record sink { calls = raised sink.calls 1; faults = raised sink.faults 1 }
