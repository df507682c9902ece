-- The units of a program with where they go on by themselves and what they call.
use Rattle.std.specs.Prelude.{◌≡◌, ℕ, ◌+◌, ◌<◌, ◌⊎◌, List, [], All, AllPairs, Contains}
use Rattle.elf_mips.specs.declared.image.Image.{Image}
use Rattle.net_model.specs.declared.unit.CodeUnit.{CodeUnit}
use Rattle.net_model.specs.declared.unit.Content.{Content}
use Rattle.net_model.specs.declared.unit.Content.TheVariants.{Unit as Stands, Fault}
use Rattle.net_model.specs.Flow.{called, ways_on}
use Rattle.net_model.specs.Targets.{unit_at}
use Rattle.code_units.specs.Sets.{IsSetOf}
use Rattle.code_units.specs.Ways.{IfPlaced}
use Rattle.unit_graph.specs.declared.rows.Row.{Row}

-- The ways of what stands at an address, and what it calls: a fault has none and calls nothing.
abbrev pub ways_of_content : Image → Content → ℕ → List ℕ
ways_of_content image (Stands unit) address = ways_on image unit address
ways_of_content image (Fault kind place) address = []

abbrev pub calls_of_content : Image → Content → ℕ → List ℕ
calls_of_content image (Stands unit) address = called image unit address
calls_of_content image (Fault kind place) address = []

-- The row of an address.
pub record IsRow (image : Image) (row : Row) : Type 0 where
  pub content : row.content ≡ unit_at image row.address
  pub placed : IfPlaced row.content row.address
  pub onward : IsSetOf (ways_of_content image row.content row.address) row.onward
  pub calls : IsSetOf (calls_of_content image row.content row.address) row.calls

-- The rows are all of one image.
abbrev pub ShareImage : List Row → Type 0
ShareImage rows = (image : Image) × All (IsRow image) rows

-- What is said of each image of which they all are.
abbrev pub OfSharedImage : List Row → (said : Image → Type 0) → Type 0
OfSharedImage rows said = (image : Image) → All (IsRow image) rows → said image

-- The rows rise, each address has one.
abbrev pub Rise : List Row → Type 0
Rise rows = AllPairs (λ (r s : Row). r.address < s.address) rows

-- There is a row of an address.
pub record HasRow (rows : List Row) (address : ℕ) : Type 0 where
  pub row : Row
  pub listed : Contains rows row
  pub same : row.address ≡ address

-- There is a row of an address, and a unit stands there.
pub record HasUnit (rows : List Row) (address : ℕ) : Type 0 where
  pub has : HasRow rows address
  pub unit : CodeUnit
  pub stands : has.row.content ≡ Stands unit

-- Where the unit of a row may go on: its ways, what it calls, and the address behind its slot where it calls.
abbrev pub MayLead : Row → ℕ → Type 0
MayLead row later =
    Contains row.onward later ⊎ (Contains row.calls later ⊎ ((row.calls ≡ [] → ⊥) × (later ≡ row.address + 8)))

-- The same of what stands at an address.
abbrev pub MayLeadAt : Image → (address later : ℕ) → Type 0
MayLeadAt image address later =
    Contains (ways_of_content image (unit_at image address) address) later
    ⊎ (Contains (calls_of_content image (unit_at image address) address) later
    ⊎ ((callee : ℕ) × Contains (calls_of_content image (unit_at image address) address) callee × (later ≡ address + 8)))

-- The rows of all addresses to which an entry may lead: none leads to an address without one.
pub record AreRows (image : Image) (entry : ℕ) (rows : List Row) : Type 0 where
  pub rising : Rise rows
  pub each : All (IsRow image) rows
  pub begins : HasRow rows entry
  pub closed : (row : Row) → Contains rows row → (later : ℕ) → MayLead row later → HasRow rows later

-- There are an image and an entry whose rows these are.
abbrev pub HaveImage : List Row → Type 0
HaveImage rows = (image : Image) × (entry : ℕ) × AreRows image entry rows

-- What is said of each image and entry whose rows these are.
abbrev pub OfTheirImage : List Row → (said : Image → ℕ → Type 0) → Type 0
OfTheirImage rows said = (image : Image) (entry : ℕ) → AreRows image entry rows → said image entry
