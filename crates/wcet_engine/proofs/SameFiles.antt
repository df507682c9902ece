-- A file has one image, and a text gives one profile, as far as faults go.
use Rattle.std.proofs.Common.{◌≡◌, ℕ, suc, Bool, true, false, cond, List, [], ◌∷◌, length, map, Contains, Option, Some, None, refl, sym, ap, ap₂, subst, ◌∙◌}
use Rattle.std.proofs.lemmas.Option.{same_Some}
use Rattle.cache_config.specs.Caches.{Cache, cache}
use Rattle.cache_config.specs.Defaults.{HasDefaults}
use Rattle.cache_config.specs.Instructions.{cycles_of}
use Rattle.cache_config.specs.Profiles.{Means, ReadsAs, ReadsCosts, span}
use Rattle.cache_config.specs.Values.{costs_of}
use Rattle.cache_config.specs.declared.profile.Cycles.{Cycles}
use Rattle.cache_config.specs.declared.profile.Profile.{Profile}
use Rattle.cache_config.specs.declared.profile.Region.{Region as Area}
use Rattle.lru_concrete.specs.declared.level.Level.{Level}
use Rattle.lru_concrete.specs.declared.level.Serves.{Serves}
use Rattle.lru_concrete.specs.declared.level.Side.{Side}
use Rattle.lru_concrete.specs.Chains.{chain, serves}
use Rattle.elf_mips.specs.Image.{IsImage}
use Rattle.elf_mips.specs.Symbols.{symbol_at}
use Rattle.elf_mips.specs.declared.image.Image.{Image}
use Rattle.elf_mips.specs.declared.segment.Segment.{Segment}
use Rattle.elf_mips.specs.declared.symbol.Symbol.{Symbol}
use Rattle.mips_decode.specs.State.{Region}
use Rattle.mips_decode.specs.declared.columns.CostClass.{CostClass}
use Rattle.mips_decode.specs.declared.columns.CostClass.TheVariants as cost
use Rattle.mips_machine.specs.Image.{area_of, region_of}
use Rattle.toml.specs.Data.{Members, no_members}
use Rattle.mips_machine.specs.Clash.{IsClash, IsSharedBy, given_regions}
use Rattle.wcet_engine.specs.Faults.{GivesProfile}
use Rattle.wcet_engine.specs.FileFaults.{entry_by}
use Rattle.wcet_engine.proofs.SameCosts.{HaveSameCosts}
use Rattle.wcet_engine.proofs.SameImage.{IsSame}

-- The images of one file: the same program, entered at the same addresses.
pub record IsSameImage (a b : Image) : Type 0 where
  pub program : IsSame a b
  pub entries : (name : Option (List ℕ)) → entry_by a name ≡ entry_by b name

entries-same : (a b : Image) (name : Option (List ℕ)) → a.entry ≡ b.entry → a.symbols ≡ b.symbols → entry_by a name ≡ entry_by b name
entries-same a b None entry symbols = ap (λ (n : ℕ). Some n) entry
entries-same a b (Some name) entry symbols = ap (λ (ss : List Symbol). symbol_at ss name) symbols

pub same-image : (file : List ℕ) (a b : Image) → IsImage file a → IsImage file b → IsSameImage a b
same-image file a b one other = record {
  program = record { segments = one.segments ∙ sym other.segments; marks = one.marks ∙ sym other.marks };
  entries = λ name. entries-same a b name (one.entry ∙ sym other.entry) (one.symbols ∙ sym other.symbols);
}

-- What is said of a clash holds of the same image, and of a profile that gives the same memory.
pub clash-same : (a b : Image) (profile other : Profile) (place : ℕ) → IsSame a b → given_regions profile ≡ given_regions other →
    IsClash a profile place → IsClash b other place
clash-same a b profile other place same regions clash = record {
  segment = clash.segment;
  loaded = subst (λ (segments : List Segment). Contains segments clash.segment) same.segments clash.loaded;
  shared = subst (λ (rs : List Region). IsSharedBy (region_of clash.segment) rs place) regions clash.shared;
}

-- Two profiles with the same costs, that give the same memory, name the same entry, and have as many caches.
pub record IsSameProfile (profile other : Profile) : Type 0 where
  pub costs : HaveSameCosts profile other
  pub regions : given_regions profile ≡ given_regions other
  pub entry : profile.entry ≡ other.entry
  pub caches : length profile.levels ≡ length other.levels

cycles-same : (read : Members) (cycles other : Cycles) (class : CostClass) → ReadsCosts read cycles → ReadsCosts read other →
    cycles_of cycles class ≡ cycles_of other class
cycles-same read cycles other cost.Alu one two = one.alu ∙ sym two.alu
cycles-same read cycles other cost.Shift one two = one.shift ∙ sym two.shift
cycles-same read cycles other cost.Mult one two = one.mult ∙ sym two.mult
cycles-same read cycles other cost.Div one two = one.div ∙ sym two.div
cycles-same read cycles other cost.Move one two = one.hilo ∙ sym two.hilo
cycles-same read cycles other cost.Load one two = one.load ∙ sym two.load
cycles-same read cycles other cost.Store one two = one.store ∙ sym two.store
cycles-same read cycles other cost.Branch one two = one.branch ∙ sym two.branch
cycles-same read cycles other cost.Jump one two = one.jump ∙ sym two.jump
cycles-same read cycles other cost.Stop one two = one.stop ∙ sym two.stop

-- A number of two things that are one.
number-same : {S : Type 0} (one two : S) (number : S → ℕ) → one ≡ two → number one ≡ number two
number-same one two number same = ap number same

-- The memory of regions follows from their spans.
areas-by : (areas others : List Area) → map (λ (r : Area). Some (span r)) areas ≡ map (λ (r : Area). Some (span r)) others →
    map area_of areas ≡ map area_of others
areas-by [] [] same = refl
areas-by [] (other ∷ others) same = absurd cc
areas-by (area ∷ areas) [] same = absurd cc
areas-by (area ∷ areas) (other ∷ others) same =
    let rest : map (λ (r : Area). Some (span r)) areas ≡ map (λ (r : Area). Some (span r)) others = cc in
    let spans : span area ≡ span other = cc in
    let start : area.start ≡ other.start = number-same (span area) (span other) (λ s. s.start) spans in
    let size : area.size ≡ other.size = number-same (span area) (span other) (λ s. s.size) spans in
    rw (start, size, areas-by areas others rest) refl

areas-same : (read : Members) (profile other : Profile) → ReadsAs read profile → ReadsAs read other →
    map area_of profile.regions ≡ map area_of other.regions
areas-same read profile other one two = areas-by profile.regions other.regions (one.regions ∙ sym two.regions)

-- Caches of the same keys cost the same.
record AreAlike (levels others : List Level) : Type 0 where
  many : length levels ≡ length others
  latencies : (side : Side) → map (λ (l : Level). l.latency) (chain side levels) ≡ map (λ (l : Level). l.latency) (chain side others)

latency-onto : (served : Bool) (latency other : ℕ) (latencies others : List ℕ) → latency ≡ other → latencies ≡ others →
    cond served (latency ∷ latencies) latencies ≡ cond served (other ∷ others) others
latency-onto true latency other latencies others same rest = ap₂ (λ (n : ℕ) (ns : List ℕ). n ∷ ns) same rest
latency-onto false latency other latencies others same rest = rest

chain-latencies : (side : Side) (level : Level) (levels : List Level) → map (λ (l : Level). l.latency) (chain side (level ∷ levels))
    ≡ cond (serves level.serves side) (level.latency ∷ map (λ (l : Level). l.latency) (chain side levels))
    (map (λ (l : Level). l.latency) (chain side levels))
chain-latencies side level levels = by_served (serves level.serves side)
  where
    by_served : (served : Bool) → map (λ (l : Level). l.latency) (cond served (level ∷ chain side levels) (chain side levels))
        ≡ cond served (level.latency ∷ map (λ (l : Level). l.latency) (chain side levels)) (map (λ (l : Level). l.latency) (chain side levels))
    by_served true = refl
    by_served false = refl

levels-by : (levels others : List Level) → map (λ (l : Level). Some (cache l)) levels ≡ map (λ (l : Level). Some (cache l)) others →
    AreAlike levels others
levels-by [] [] same = record { many = refl; latencies = λ side. refl }
levels-by [] (other ∷ others) same = absurd cc
levels-by (level ∷ levels) [] same = absurd cc
levels-by (level ∷ levels) (other ∷ others) same =
    let rest : map (λ (l : Level). Some (cache l)) levels ≡ map (λ (l : Level). Some (cache l)) others = cc in
    let first : cache level ≡ cache other = cc in
    let later = levels-by levels others rest in
    record {
      many = ap suc later.many;
      latencies = λ side. chain-latencies side level levels
          ∙ ap (λ (s : Serves). cond (serves s side) (level.latency ∷ map (λ (l : Level). l.latency) (chain side levels))
          (map (λ (l : Level). l.latency) (chain side levels))) (ap (λ (c : Cache). c.serves) first)
          ∙ latency-onto (serves other.serves side) level.latency other.latency
          (map (λ (l : Level). l.latency) (chain side levels)) (map (λ (l : Level). l.latency) (chain side others))
          (ap (λ (c : Cache). c.latency) first) (later.latencies side)
          ∙ sym (chain-latencies side other others);
    }

read-same : (read : Members) (profile other : Profile) → ReadsAs read profile → ReadsAs read other → IsSameProfile profile other
read-same read profile other one two = let levels = levels-by profile.levels other.levels (one.levels ∙ sym two.levels) in record {
  costs = record {
    memory = one.memory ∙ sym two.memory;
    store = one.store ∙ sym two.store;
    levels = levels.latencies;
    classes = λ class. cycles-same (costs_of read) profile.cycles other.cycles class one.cycles two.cycles;
  };
  regions = rw (one.stack_top, one.stack_size, two.stack_top, two.stack_size, areas-same read profile other one two) refl;
  entry = one.entry ∙ sym two.entry;
  caches = levels.many;
}

-- A text has one list of members.
pub same-members : (text : List ℕ) (one two : Members) → Means text one → Means text two → one ≡ two
same-members text one two a b = same_Some one two (sym a.1 ∙ b.1)

pub same-profile : (config : Option (List ℕ)) (profile other : Profile) → GivesProfile config profile → GivesProfile config other →
    IsSameProfile profile other
same-profile None profile other one two = read-same no_members profile other one two
same-profile (Some text) profile other one two =
    read-same two.members profile other
    (subst (λ (members : Members). ReadsAs members profile) (same-members text one.members two.members one.means two.means) one.reads) two.reads
