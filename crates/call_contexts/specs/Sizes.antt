-- How many contexts and places a program has, by what its functions call.
use Rattle.std.specs.Prelude.{◌≡◌, ℕ, ◌+◌, ◌<◌, List, length, sum_by, All, AllPairs, Contains, ◌⊎◌}
use Rattle.elf_mips.specs.declared.image.Image.{Image}
use Rattle.mips_decode.specs.Transfer.{Call}
use Rattle.net_model.specs.Functions.{CallsAt, IsFunction, IsReached}
use Rattle.unit_graph.specs.Graphs.{AreJust}

-- The most contexts and places of a net.
abbrev pub most_contexts : ℕ
most_contexts = 16384

abbrev pub most_places : ℕ
most_places = 65536

-- A function calls another one from a unit that it reaches.
pub record IsCallOf (image : Image) (function : ℕ) (call : Call) : Type 0 where
  pub reached : IsReached image function call.site
  pub calls : CallsAt image call.site call.target

abbrev pub IsCallAfter : Call → Call → Type 0
IsCallAfter call other = (call.site < other.site) ⊎ ((call.site ≡ other.site) × (call.target < other.target))

-- The calls of a function, by rising site and function, each once.
pub record AreCallsOf (image : Image) (function : ℕ) (calls : List Call) : Type 0 where
  pub rising : AllPairs IsCallAfter calls
  pub sound : All (IsCallOf image function) calls
  pub whole : (call : Call) → IsCallOf image function call → Contains calls call

-- A number for each function: its own, and for each of its calls that of the called function. Without recursion
-- just one such number is there for each function.
abbrev pub AddsUp : Image → (entry : ℕ) → (own total : ℕ → ℕ) → Type 0
AddsUp image entry own total =
    (function : ℕ) (calls : List Call) → IsFunction image entry function → AreCallsOf image function calls →
    total function ≡ own function + sum_by (λ (call : Call). total call.target) calls

-- How many units each function reaches.
abbrev pub CountsUnits : Image → (entry : ℕ) → (units : ℕ → ℕ) → Type 0
CountsUnits image entry units =
    (function : ℕ) (addresses : List ℕ) → IsFunction image entry function → AreJust (IsReached image function) addresses →
    units function ≡ length addresses

-- The numbers of contexts and places of a program: a context of a function makes itself and what its calls make,
-- and each context has a place for each unit of its function.
pub record AreSizes (image : Image) (entry contexts places : ℕ) : Type 0 where
  pub contexts_of : ℕ → ℕ
  pub units_of : ℕ → ℕ
  pub places_of : ℕ → ℕ
  pub units : CountsUnits image entry units_of
  pub contexts_add : AddsUp image entry (λ function. 1) contexts_of
  pub places_add : AddsUp image entry units_of places_of
  pub contexts_are : contexts ≡ contexts_of entry
  pub places_are : places ≡ places_of entry
