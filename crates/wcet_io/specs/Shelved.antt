-- A shelf in memory, and what its calls do.
use Rattle.std.specs.Prelude.{◌≡◌, ℕ, ◌-◌, ◌⊎◌, ◌++◌, List, [], ◌∷◌, length, min, Contains, None, Result, Ok, Err}
use Rattle.std.specs.Option.{unwrap_or}
use Rattle.wcet_io.specs.Counts.{raised}
use Rattle.wcet_io.specs.Files.{Named, file_at}

-- The most bytes of one call, the numbers of the calls that fail, the files, and the three counts.
pub record Shelved : Type 0 where
  pub step : ℕ
  pub failing : List ℕ
  pub files : List Named
  pub calls : ℕ
  pub faults : ℕ
  pub placed : ℕ

-- A shelf without files that wasn't called yet.
abbrev pub new_shelf : ℕ → List ℕ → Shelved
new_shelf step failing = record {
  step = step;
  failing = failing;
  files = [];
  calls = 0;
  faults = 0;
  placed = 0;
}

-- The shelf with one more file behind the others.
abbrev pub with_file : Shelved → List ℕ → List ℕ → Shelved
with_file shelf name bytes =
    record shelf { files = shelf.files ++ record { name = name; bytes = bytes } ∷ [] }

-- The next call of `piece` fails: its number is one of the failing ones, or no file has this name.
abbrev pub FailsAt : Shelved → List ℕ → Type 0
FailsAt shelf name =
    Contains shelf.failing (raised shelf.calls 1) ⊎ (file_at shelf.files name ≡ None)

-- How many bytes a call places: a step's, the buffer's or the rest's, whichever is least.
abbrev pub piece_size : Shelved → List ℕ → ℕ → ℕ → ℕ
piece_size shelf name at room =
    min shelf.step (min room (length (unwrap_or (file_at shelf.files name) []) - at))

-- After `piece`: each call counts, a failure as a fault, and what was placed as placed.
abbrev pub after_piece : {E : Type 0} → Result ℕ E → Shelved → Shelved
after_piece (Ok n) shelf =
    record shelf { calls = raised shelf.calls 1; placed = raised shelf.placed n }
after_piece (Err e) shelf =
    record shelf { calls = raised shelf.calls 1; faults = raised shelf.faults 1 }
