-- The contents of files, and what a piece of them is.
use Rattle.std.specs.Prelude.{◌≡◌, ℕ, ◌-◌, ◌≤◌, List, length, take, drop, Option, IfSome, Result, IfOk}
use Rattle.std.specs.Option.{option_map}
use Rattle.std.specs.List.{find}
use Rattle.std.specs.Str.{bytes_eq}

-- The n bytes at the buffer's front are the file's from the byte `at` on, and none only at its end.
pub record Places (file : List ℕ) (at n : ℕ) (buf : List ℕ) : Type 0 where
  pub bytes : take n buf ≡ take n (drop at file)
  pub within : n ≤ length file - at
  pub end : n ≡ 0 → length file ≤ at

-- Where contents are told, an answer of n bytes placed n of them.
abbrev pub PlacesTold : {E : Type 0} → Option (List ℕ) → ℕ → Result ℕ E → List ℕ → Type 0
PlacesTold told at result buf = IfOk result (λ n. IfSome told (λ file. Places file at n buf))

-- A file by its name's bytes and its contents.
pub record Named : Type 0 where
  pub name : List ℕ
  pub bytes : List ℕ

-- The contents of the first file of this name.
abbrev pub file_at : List Named → List ℕ → Option (List ℕ)
file_at files name = option_map (λ file. file.bytes) (find (λ file. bytes_eq file.name name) files)
