-- What known words tell of memory.
use Rattle.std.specs.Prelude.{◌≡◌, ℕ, ◌<◌, List, length, Contains, Option, Some, option_map, true}
use Rattle.mips_decode.specs.declared.instr.LoadOp.TheVariants.{Lw}
use Rattle.mips_decode.specs.declared.step.Touched.{Touched}
use Rattle.mips_decode.specs.Effect.{region_of, number_in}
use Rattle.mips_decode.specs.Memory.{load_touched}
use Rattle.mips_decode.specs.State.{Region, is_writable}
use Rattle.cell_memory.specs.declared.stretch.Stretch.{Stretch}
use Rattle.cell_memory.specs.Stores.{LiesIn}
use Rattle.domain_laws.specs.Maps.{value_at}
use Rattle.value_domain.specs.Spans.{Span, Holds}

-- The word at an address, in the region that holds it; none where no region holds it whole.
abbrev pub word_in : List Region → ℕ → Option ℕ
word_in regions address =
    option_map (number_in (load_touched Lw address)) (region_of (load_touched Lw address) regions)

-- Each known word holds the number that stands there.
abbrev pub Covers : List (ℕ × Span) → List Region → Type 0
Covers words regions =
    (address : ℕ) (value : Span) (number : ℕ) → value_at address words ≡ Some value →
    word_in regions address ≡ Some number → Holds value number

-- Each region that can be written and has bytes lies in a stretch.
abbrev pub AreWritable : List Stretch → List Region → Type 0
AreWritable stretches regions =
    (region : Region) → Contains regions region → is_writable region ≡ true → 0 < length region.bytes →
    (stretch : Stretch) × Contains stretches stretch × LiesIn stretch region.start (length region.bytes)

-- A store of some bytes from an address on, with the number that it leaves there.
abbrev pub store_at : (address size : ℕ) → Touched
store_at address size = record { address = address; size = size; store = true }

-- The store finds a region that can be written, and a whole word that it stores is a held number.
pub record IsStore (regions : List Region) (address : Span) (size : ℕ) (value : Span) (at number : ℕ) : Type 0 where
  pub held : Holds address at
  pub region : Region
  pub there : region_of (store_at at size) regions ≡ Some region
  pub writable : is_writable region ≡ true
  pub word : size ≡ 4 → Holds value number
