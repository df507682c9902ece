-- Which units can return, by rules.
use Rattle.std.specs.Prelude.{◌≡◌, ℕ, ◌+◌, ◌<◌, ◌≤◌, ◌^◌, ◌⊎◌, List, length, All, Contains, Option, Some, None, Bool, true, false}
use Rattle.std.specs.List.Sorted.{IsNonDecreasingBy, IsStrictlySortedBy}
use Rattle.std.specs.Ordering.{nat_cmp}
use Rattle.elf_mips.specs.declared.image.Image.{Image}
use Rattle.net_model.specs.Functions.{CanReturn}
use Rattle.net_model.specs.Onward.{returns}
use Rattle.net_model.specs.declared.unit.Content.{Content}
use Rattle.net_model.specs.declared.unit.Content.TheVariants.{Unit as Stands, Fault}
use Rattle.unit_graph.specs.Rows.{HasRow, OfTheirImage}
use Rattle.unit_graph.specs.Search.{IsWithin}
use Rattle.unit_graph.specs.declared.inference.Rule.{Rule}
use Rattle.unit_graph.specs.declared.rows.Row.{Row}

-- There is no other condition, or it is among these.
abbrev pub IsMetBy : Option ℕ → List ℕ → Type 0
IsMetBy None seen = Unit {0}
IsMetBy (Some address) seen = Contains seen address

-- More addresses are seen; each new one waits.
pub record Grows (seen waiting later_seen later_waiting : List ℕ) : Type 0 where
  pub kept : IsWithin seen later_seen
  pub still : IsWithin waiting later_waiting
  pub new : (x : ℕ) → Contains later_seen x → Contains seen x ⊎ Contains later_waiting x
  pub known : (x : ℕ) → Contains later_waiting x → Contains waiting x ⊎ Contains later_seen x
  pub low : (x : ℕ) → Contains later_seen x → Contains seen x ⊎ (x < 2 ^ 32)
  pub rising : IsStrictlySortedBy nat_cmp seen → IsStrictlySortedBy nat_cmp later_seen
  pub counted : length later_seen + length waiting ≡ length seen + length later_waiting
  pub more : length seen ≤ length later_seen

-- A rule is applied where its other condition is met.
pub record IsTried (rule : Rule) (seen waiting later_seen later_waiting : List ℕ) : Type 0 where
  pub grows : Grows seen waiting later_seen later_waiting
  pub only : (x : ℕ) → Contains later_seen x → Contains seen x ⊎ ((x ≡ rule.then) × IsMetBy rule.other seen)
  pub there : IsMetBy rule.other seen → Contains later_seen rule.then

-- What the unit at an address needs to return is there.
abbrev pub CanReturnOr : Image → Option ℕ → Type 0
CanReturnOr image None = Unit {0}
CanReturnOr image (Some address) = CanReturn image address

-- A rule says the truth.
abbrev pub IsSound : Image → Rule → Type 0
IsSound image rule = CanReturn image rule.given → CanReturnOr image rule.other → CanReturn image rule.then

-- All that are seen can return.
abbrev pub CanAllReturn : Image → List ℕ → Type 0
CanAllReturn image seen = (x : ℕ) → Contains seen x → CanReturn image x

-- Rules whose first condition holds are applied.
pub record Infers (rules : List Rule) (seen waiting later_seen later_waiting : List ℕ) : Type 0 where
  pub grows : Grows seen waiting later_seen later_waiting
  pub sound : (image : Image) → All (IsSound image) rules → All (λ (rule : Rule). CanReturn image rule.given) rules →
      CanAllReturn image seen → CanAllReturn image later_seen
  pub there : All (λ (rule : Rule). IsMetBy rule.other seen → Contains later_seen rule.then) rules

-- More items are listed: these, and no others.
pub record Adds (these : Rule → Type 0) (items later : List Rule) : Type 0 where
  pub kept : (rule : Rule) → Contains items rule → Contains later rule
  pub there : (rule : Rule) → these rule → Contains later rule
  pub only : (rule : Rule) → Contains later rule → Contains items rule ⊎ these rule

-- A unit can return where one of these can to which it goes on by itself.
pub record IsOnwardRule (address : ℕ) (onward : List ℕ) (rule : Rule) : Type 0 where
  pub later : ℕ
  pub goes : Contains onward later
  pub same : rule ≡ record { given = later; other = None; then = address }

-- A unit can return where one of these functions that it calls can, and the unit behind its slot.
pub record IsCallRule (address : ℕ) (calls : List ℕ) (rule : Rule) : Type 0 where
  pub callee : ℕ
  pub called : Contains calls callee
  pub same : (rule ≡ record { given = callee; other = Some (address + 8); then = address })
      ⊎ (rule ≡ record { given = address + 8; other = Some callee; then = address })

abbrev pub IsRuleOf : Row → Rule → Type 0
IsRuleOf row rule = IsOnwardRule row.address row.onward rule ⊎ IsCallRule row.address row.calls rule

-- A rule of one of the rows.
pub record IsAnyRule (rows : List Row) (rule : Rule) : Type 0 where
  pub row : Row
  pub listed : Contains rows row
  pub is : IsRuleOf row rule

-- The rules of the rows, by the first conditions.
pub record AreRules (rows : List Row) (rules : List Rule) : Type 0 where
  pub rising : IsNonDecreasingBy (λ (rule : Rule). rule.given) rules
  pub sound : All (IsAnyRule rows) rules
  pub whole : (rule : Rule) → IsAnyRule rows rule → Contains rules rule

-- A return unit stands there.
abbrev pub returns_at : Content → Bool
returns_at (Stands unit) = returns unit
returns_at (Fault kind place) = false

-- The addresses of the return units.
pub record IsEnd (rows : List Row) (address : ℕ) : Type 0 where
  pub row : Row
  pub listed : Contains rows row
  pub returns : returns_at row.content ≡ true
  pub same : row.address ≡ address

-- The return units are seen; all that are seen can return; and where all conditions of a rule are seen and none of
-- them waits, what follows is seen.
pub record IsInferring (rows : List Row) (rules : List Rule) (seen waiting : List ℕ) : Type 0 where
  pub sound : OfTheirImage rows (λ image entry. CanAllReturn image seen)
  pub ends : (address : ℕ) → IsEnd rows address → Contains seen address
  pub known : IsWithin waiting seen
  pub alone : (x y : ℕ) → Contains rules (record { given = x; other = None; then = y }) → Contains seen x →
      Contains waiting x ⊎ Contains seen y
  pub both : (x z y : ℕ) → Contains rules (record { given = x; other = Some z; then = y }) →
      Contains rules (record { given = z; other = Some x; then = y }) → Contains seen x → Contains seen z →
      (Contains waiting x ⊎ Contains waiting z) ⊎ Contains seen y
  pub low : (x : ℕ) → Contains seen x → x < 2 ^ 32
  pub rising : IsStrictlySortedBy nat_cmp seen

-- All of the rows' addresses that can return, and no address that can't.
pub record AreReturning (image : Image) (rows : List Row) (returning : List ℕ) : Type 0 where
  pub sound : CanAllReturn image returning
  pub whole : (x : ℕ) → HasRow rows x → CanReturn image x → Contains returning x
