-- The functions that call themselves, by their positions.
use Rattle.std.specs.Prelude.{◌≡◌, ℕ, ◌<◌, ◌↔◌, List, Contains, Option, Some, None, slice_get}
use Rattle.std.specs.List.{AllZip}
use Rattle.elf_mips.specs.declared.image.Image.{Image}
use Rattle.net_model.specs.Functions.{IsRecursive}
use Rattle.unit_graph.specs.Program.{CalledIn}
use Rattle.unit_graph.specs.declared.rows.Row.{Row}

-- Of all functions the positions of those that one calls.
abbrev pub AreCalls : List Row → (returning all : List ℕ) → (function : ℕ) → (steps : List ℕ) → Type 0
AreCalls rows returning all function steps =
    (to : ℕ) → Contains steps to ↔ ((callee : ℕ) × (slice_get all to ≡ Some callee) × CalledIn rows returning function callee)

-- For each of some functions the positions of those that it calls.
abbrev pub IsCallTable : List Row → (returning all functions : List ℕ) → List (List ℕ) → Type 0
IsCallTable rows returning all functions table = AllZip (AreCalls rows returning all) functions table

-- The least function that calls itself, or none.
abbrev pub IsFirstRecursive : Image → (entry : ℕ) → Option ℕ → Type 0
IsFirstRecursive image entry None = (function : ℕ) → IsRecursive image entry function → ⊥
IsFirstRecursive image entry (Some first) =
    IsRecursive image entry first × ((lesser : ℕ) → lesser < first → IsRecursive image entry lesser → ⊥)
