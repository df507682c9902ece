-- The kinds of refusals, in their order and by their names.
use Rattle.std.specs.Prelude.{ℕ, ◌==◌, Bool, true, false, List, [], ◌∷◌, codes}
use Rattle.std.specs.List.{find, position_or_len}
use Rattle.std.specs.Option.{option_map_or}
use Rattle.elf_mips.specs.Faults.{order}
use Rattle.elf_mips.specs.declared.fault.ElfKind.TheVariants as elf
use Rattle.net_model.specs.Faults.{rank as code_rank}
use Rattle.net_model.specs.declared.unit.CodeKind.TheVariants as code
use Rattle.wcet_engine.specs.declared.refusal.ConfigKind.{ConfigKind}
use Rattle.wcet_engine.specs.declared.refusal.ConfigKind.TheVariants as config
use Rattle.wcet_engine.specs.declared.refusal.Refusal.{Refusal}
use Rattle.wcet_engine.specs.declared.refusal.RefusalKind.{RefusalKind}
use Rattle.wcet_engine.specs.declared.refusal.RefusalKind.TheVariants.{TooLong, Config, Elf, NoSymbol, RegionClash, Unbuilt, Code, NeverReturns, TooManyUnits, BoundTooLarge}
use Rattle.wcet_engine.specs.declared.refusal.Spot.{Spot}
use Rattle.wcet_engine.specs.declared.refusal.Spot.TheVariants.{Number, Key}

-- A fault at a place that is a number.
abbrev pub at_number : RefusalKind → ℕ → Refusal
at_number kind place = record { kind = kind; spot = Number place }

-- A fault at the key of a path.
abbrev pub at_key : RefusalKind → List ℕ → Refusal
at_key kind path = record { kind = kind; spot = Key path }

-- What is said of a place that is a number; it isn't said of a key.
abbrev pub says_at : (ℕ → Type 0) → Spot → Type 0
says_at Says (Number place) = Says place
says_at Says (Key path) = ⊥

-- What is said of the key of a path; it isn't said of a number.
abbrev pub says_at_key : (List ℕ → Type 0) → Spot → Type 0
says_at_key Says (Number place) = ⊥
says_at_key Says (Key path) = Says path

-- A kind with its name in a refusal line.
pub record NamedKind : Type 0 where
  pub kind : RefusalKind
  pub name : List ℕ

abbrev pub named : RefusalKind → List ℕ → NamedKind
named kind name = record { kind = kind; name = name }

-- All kinds, in the order in which they are looked for.
abbrev pub named_kinds : List NamedKind
named_kinds =
    named TooLong (codes "too-long")
    ∷ named (Config config.Text) (codes "config-text")
    ∷ named (Config config.Key) (codes "config-key")
    ∷ named (Config config.Range) (codes "config-range")
    ∷ named (Elf elf.Short) (codes "short")
    ∷ named (Elf elf.NotElf) (codes "not-elf")
    ∷ named (Elf elf.NotThisKind) (codes "not-this-kind")
    ∷ named (Elf elf.BadTable) (codes "bad-table")
    ∷ named (Elf elf.BadSegment) (codes "bad-segment")
    ∷ named (Elf elf.BadSection) (codes "bad-section")
    ∷ named (Elf elf.BadRecord) (codes "bad-record")
    ∷ named NoSymbol (codes "no-symbol")
    ∷ named RegionClash (codes "region-clash")
    ∷ named Unbuilt (codes "unbuilt")
    ∷ named (Code code.WritableCode) (codes "writable-code")
    ∷ named (Code code.UnknownWord) (codes "unknown-word")
    ∷ named (Code code.TransferInSlot) (codes "transfer-in-slot")
    ∷ named (Code code.UnknownTarget) (codes "unknown-target")
    ∷ named (Code code.LinkRegister) (codes "link-register")
    ∷ named (Code code.Recursion) (codes "recursion")
    ∷ named (Code code.Irreducible) (codes "irreducible")
    ∷ named (Code code.NoBound) (codes "no-bound")
    ∷ named NeverReturns (codes "never-returns")
    ∷ named TooManyUnits (codes "too-many-units")
    ∷ named BoundTooLarge (codes "bound-too-large")
    ∷ []

-- Whether two kinds are the same.
abbrev pub is_config : ConfigKind → ConfigKind → Bool
is_config config.Text config.Text = true
is_config config.Key config.Key = true
is_config config.Range config.Range = true
is_config one other = false

abbrev pub is_kind : RefusalKind → RefusalKind → Bool
is_kind TooLong TooLong = true
is_kind (Config one) (Config other) = is_config one other
is_kind (Elf one) (Elf other) = order one == order other
is_kind NoSymbol NoSymbol = true
is_kind RegionClash RegionClash = true
is_kind Unbuilt Unbuilt = true
is_kind (Code one) (Code other) = code_rank one == code_rank other
is_kind NeverReturns NeverReturns = true
is_kind TooManyUnits TooManyUnits = true
is_kind BoundTooLarge BoundTooLarge = true
is_kind one other = false

-- The rank of a kind is its place among them: of several kinds that a file has, the one of the least rank is answered.
abbrev pub rank : RefusalKind → ℕ
rank kind = position_or_len (λ (known : NamedKind). is_kind known.kind kind) named_kinds

-- The name of a kind in a refusal line.
abbrev pub name_of : RefusalKind → List ℕ
name_of kind =
    option_map_or (λ (known : NamedKind). known.name)
    (find (λ (known : NamedKind). is_kind known.kind kind) named_kinds) []
