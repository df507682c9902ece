-- What a text says of a profile: the profile that it gives, or its fault.
use Rattle.std.specs.Prelude.{◌≡◌, ℕ, List, [], Some, map, codes, IsUtf8}
use Rattle.toml.specs.Data.{Members}
use Rattle.toml.specs.Parse.{parse_document}
use Rattle.cache_config.specs.declared.fault.ConfigFault.{ConfigFault}
use Rattle.cache_config.specs.declared.fault.ConfigFault.TheVariants.{Text, Key, Range, Memory}
use Rattle.cache_config.specs.declared.fault.FaultKind.{FaultKind}
use Rattle.cache_config.specs.declared.fault.FaultKind.TheVariants as kind
use Rattle.cache_config.specs.declared.profile.Cycles.{Cycles}
use Rattle.cache_config.specs.declared.profile.Profile.{Profile}
use Rattle.cache_config.specs.declared.profile.Region.{Region}
use Rattle.cache_config.specs.declared.spans.Span.{Span}
use Rattle.cache_config.specs.Caches.{cache, cache_of}
use Rattle.cache_config.specs.Faults.{IsFirst, profile_faults}
use Rattle.cache_config.specs.Keys.{class_row, profile_row}
use Rattle.cache_config.specs.Spans.{size_of, span_of, top_of}
use Rattle.cache_config.specs.Values.{caches_of, costs_of, entry_of, number_at, regions_of, value_of}
use Rattle.lru_concrete.specs.declared.level.Level.{Level}

-- The text is a TOML document in UTF-8, and these are its members.
abbrev pub Means : List ℕ → Members → Type 0
Means text ms = IsUtf8 text × (parse_document text ≡ Some ms)

-- The cycles that the members of the table `cycles` give.
pub record ReadsCosts (ms : Members) (c : Cycles) : Type 0 where
  pub alu : c.alu ≡ value_of (class_row (codes "alu")) ms
  pub shift : c.shift ≡ value_of (class_row (codes "shift")) ms
  pub mult : c.mult ≡ value_of (class_row (codes "mult")) ms
  pub div : c.div ≡ value_of (class_row (codes "div")) ms
  pub hilo : c.hilo ≡ value_of (class_row (codes "move")) ms
  pub load : c.load ≡ value_of (class_row (codes "load")) ms
  pub store : c.store ≡ value_of (class_row (codes "store")) ms
  pub branch : c.branch ≡ value_of (class_row (codes "branch")) ms
  pub jump : c.jump ≡ value_of (class_row (codes "jump")) ms
  pub stop : c.stop ≡ value_of (class_row (codes "stop")) ms

-- The addresses of a region.
abbrev pub span : Region → Span
span r = record { start = r.start; size = r.size }

-- The profile that the members give: each field is what stands at its key, or the key's default, and
-- the caches and the regions are those of the elements, in order.
pub record ReadsAs (ms : Members) (p : Profile) : Type 0 where
  pub memory : p.memory ≡ value_of (profile_row (codes "memory")) ms
  pub store : p.store ≡ value_of (profile_row (codes "store")) ms
  pub splits : p.splits ≡ value_of (profile_row (codes "splits")) ms
  pub steps : p.steps ≡ value_of (profile_row (codes "steps")) ms
  pub stack_top : p.stack_top ≡ top_of ms
  pub stack_size : p.stack_size ≡ size_of ms
  pub gp : p.gp ≡ number_at (profile_row (codes "gp")) ms
  pub entry : p.entry ≡ entry_of ms
  pub cycles : ReadsCosts (costs_of ms) p.cycles
  pub regions : map (λ r. Some (span r)) p.regions ≡ map span_of (regions_of ms)
  pub levels : map (λ (level : Level). Some (cache level)) p.levels ≡ map cache_of (caches_of ms)

-- The text has no fault, and it gives this profile.
pub record IsProfileOf (text : List ℕ) (p : Profile) : Type 0 where
  pub members : Members
  pub means : Means text members
  pub faultless : profile_faults members ≡ []
  pub reads : ReadsAs members p

-- The first fault of the text is of this kind, at this path.
pub record HasFirstFault (text : List ℕ) (what : FaultKind) (at : List ℕ) : Type 0 where
  pub members : Members
  pub means : Means text members
  pub first : IsFirst (profile_faults members) (record { kind = what; path = at })

-- What an error says of a text; want of memory says nothing.
abbrev pub Tells : List ℕ → ConfigFault → Type 0
Tells text Text = (ms : Members) → Means text ms → ⊥
Tells text (Key path) = HasFirstFault text kind.Key path
Tells text (Range path) = HasFirstFault text kind.Range path
Tells text Memory = Unit {0}

-- The same of the members of a text that is a document.
abbrev pub TellsOf : Members → ConfigFault → Type 0
TellsOf ms Text = ⊥
TellsOf ms (Key at) = IsFirst (profile_faults ms) (record { kind = kind.Key; path = at })
TellsOf ms (Range at) = IsFirst (profile_faults ms) (record { kind = kind.Range; path = at })
TellsOf ms Memory = Unit {0}
