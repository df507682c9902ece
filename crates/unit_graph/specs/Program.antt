-- The parts of a program's code.
use Rattle.std.specs.Prelude.{◌≡◌, ℕ, ◌<◌, ◌⊎◌, List, ◌++◌, map, All, AllPairs, Contains}
use Rattle.elf_mips.specs.declared.image.Image.{Image}
use Rattle.net_model.specs.Faults.{IsCode}
use Rattle.net_model.specs.Functions.{IsFunction}
use Rattle.unit_graph.specs.Flow.{Leads}
use Rattle.unit_graph.specs.Graphs.{AreJust, IsGraph}
use Rattle.unit_graph.specs.Inference.{AreReturning}
use Rattle.unit_graph.specs.Rows.{AreRows, HasUnit}
use Rattle.unit_graph.specs.Search.{IsLed}
use Rattle.unit_graph.specs.declared.flow.Reach.TheVariants.{Function}
use Rattle.unit_graph.specs.declared.graph.Graph.{Graph}
use Rattle.unit_graph.specs.declared.program.Program.{Program}
use Rattle.unit_graph.specs.declared.rows.Row.{Row}

-- The unit at an address calls a function.
pub record RowCalls (rows : List Row) (address callee : ℕ) : Type 0 where
  pub row : Row
  pub listed : Contains rows row
  pub same : row.address ≡ address
  pub calls : Contains row.calls callee

-- The unit at one of these addresses calls it.
pub record CalledFrom (rows : List Row) (code : List ℕ) (callee : ℕ) : Type 0 where
  pub address : ℕ
  pub among : Contains code address
  pub calls : RowCalls rows address callee

-- It is the entry, or the unit at one of these addresses calls it.
abbrev pub IsAnyFunction : List Row → (code : List ℕ) → (entry : ℕ) → ℕ → Type 0
IsAnyFunction rows code entry function = (entry ≡ function) ⊎ CalledFrom rows code function

-- Some unit to which a function leads calls it.
pub record CalledIn (rows : List Row) (returning : List ℕ) (function callee : ℕ) : Type 0 where
  pub address : ℕ
  pub led : IsLed (Leads rows returning Function) function address
  pub calls : RowCalls rows address callee

-- What a program's code reaches.
pub record IsProgram (image : Image) (entry : ℕ) (program : Program) : Type 0 where
  pub rows : AreRows image entry program.rows.items
  pub returning : AreReturning image program.rows.items program.returning.keys
  pub code : AreJust (IsCode image entry) program.code.items
  pub functions : AreJust (IsFunction image entry) program.functions.items

-- There are an image and an entry whose program it is.
abbrev pub HasImage : Program → Type 0
HasImage program = (image : Image) × (entry : ℕ) × IsProgram image entry program

-- What is said of each image and entry whose program it is.
abbrev pub OfImage : Program → (said : Image → ℕ → Type 0) → Type 0
OfImage program said = (image : Image) (entry : ℕ) → IsProgram image entry program → said image entry

-- A unit stands at each address to which a function leads.
abbrev pub AreUnits : List Row → (returning : List ℕ) → ℕ → Type 0
AreUnits rows returning function = (x : ℕ) → IsLed (Leads rows returning Function) function x → HasUnit rows x

-- Behind some graphs stand those of these functions but for the entry's, rising where the functions rise.
pub record AreGraphsOf (image : Image) (entry : ℕ) (functions : List ℕ) (before later : List Graph) : Type 0 where
  pub others : List Graph
  pub parts : later ≡ before ++ others
  pub each : All (λ (g : Graph). IsGraph image g.entry g) others
  pub apart : All (λ (g : Graph). g.entry ≡ entry → ⊥) others
  pub among : All (λ (g : Graph). Contains functions g.entry) others
  pub whole : All (λ function. (function ≡ entry → ⊥) → Contains (map (λ (g : Graph). g.entry) others) function) functions
  pub rising : AllPairs (λ (a b : ℕ). a < b) functions → AllPairs (λ (g h : Graph). g.entry < h.entry) others
