-- Units cost the same under profiles with the same costs.
use Rattle.std.proofs.Common.{◌≡◌, ℕ, List, [], ◌∷◌, ◌++◌, map, Option, Some, None, refl, ap, ap₂, arith}
use Rattle.std.proofs.Math.Path.{fun_ext}
use Rattle.cache_config.specs.declared.profile.Profile.{Profile}
use Rattle.elf_mips.specs.declared.image.Image.{Image}
use Rattle.lru_concrete.specs.declared.level.Level.{Level}
use Rattle.lru_concrete.specs.declared.level.Side.{Side}
use Rattle.lru_concrete.specs.declared.level.Side.TheVariants as side
use Rattle.lru_concrete.specs.Chains.{chain}
use Rattle.flow_net.specs.Numbers.{item_at}
use Rattle.flow_net.specs.declared.net.Net.{Net}
use Rattle.flow_net.specs.declared.net.Place.{Place}
use Rattle.mips_decode.specs.Columns.{class_of}
use Rattle.mips_decode.specs.declared.columns.CostClass.{CostClass}
use Rattle.mips_decode.specs.declared.instr.Instr.{Instr}
use Rattle.mips_decode.specs.declared.instr.Instr.TheVariants.{Three, Shift, HiLo, MulDiv, Imm, Lui, Load, Store, Branch, Jump, JumpReg, JumpLink, Stop}
use Rattle.cache_config.specs.Instructions.{costs_of, cycles_of, stages_of, stages_through}
use Rattle.net_model.specs.declared.unit.Content.{Content}
use Rattle.net_model.specs.declared.unit.Content.TheVariants.{Unit as Stands, Fault}
use Rattle.net_model.specs.Units.{content_at}
use Rattle.ipet_program.specs.Programs.{full_at, full_price}
use Rattle.ipet_program.specs.Costs.{all_stages, content_full, own_cost, slot_cost, store_latency}
use Rattle.flow_net.specs.declared.net.Access.{Access}
use Rattle.net_model.specs.Accesses.{kind_of, unit_accesses}
use Rattle.mips_decode.specs.declared.step.AccessKind.{AccessKind}
use Rattle.mips_decode.specs.declared.step.AccessKind.TheVariants.{Fetch, Slot, Load as Loading, Store as Storing}
use Rattle.std.specs.Prelude.{sum_by}
use Rattle.std.proofs.lemmas.List.Sums.{sum_by-cons}

-- Two profiles with the same costs: those of memory, of stores and of the caches of each chain, and the cycles of each
-- class.
pub record HaveSameCosts (profile other : Profile) : Type 0 where
  pub memory : profile.memory ≡ other.memory
  pub store : profile.store ≡ other.store
  pub levels : (side : Side) →
      map (λ (l : Level). l.latency) (chain side profile.levels) ≡ map (λ (l : Level). l.latency) (chain side other.levels)
  pub classes : (class : CostClass) → cycles_of profile.cycles class ≡ cycles_of other.cycles class

store-same : (profile other : Profile) (instr : Instr) → HaveSameCosts profile other →
    store_latency (costs_of profile) instr ≡ store_latency (costs_of other) instr
store-same profile other (Store op rt base offset) same = same.store
store-same profile other (Load op rt base offset) same = refl
store-same profile other (Three op rd rs rt) same = refl
store-same profile other (Shift op rd rt by) same = refl
store-same profile other (HiLo op number) same = refl
store-same profile other (MulDiv op rs rt) same = refl
store-same profile other (Imm op rt rs imm) same = refl
store-same profile other (Lui rt imm) same = refl
store-same profile other (Branch op rs rt offset) same = refl
store-same profile other (Jump link index) same = refl
store-same profile other (JumpReg rs) same = refl
store-same profile other (JumpLink rd rs) same = refl
store-same profile other (Stop op code) same = refl

own-same : (profile other : Profile) (instr : Instr) → HaveSameCosts profile other →
    own_cost (costs_of profile) instr ≡ own_cost (costs_of other) instr
own-same profile other instr same =
    omega (arith, same.classes (class_of instr), store-same profile other instr same)

slot-same : (profile other : Profile) (slot : Option Instr) → HaveSameCosts profile other →
    slot_cost (costs_of profile) slot ≡ slot_cost (costs_of other) slot
slot-same profile other None same = refl
slot-same profile other (Some slot) same = own-same profile other slot same

stages-through : (profile other : Profile) (s : Side) → HaveSameCosts profile other →
    stages_through (costs_of profile) (Some s) ≡ stages_through (costs_of other) (Some s)
stages-through profile other s same =
    ap₂ (λ (latencies : List ℕ) (memory : ℕ). latencies ++ (memory ∷ [])) (same.levels s) same.memory

stages-same : (profile other : Profile) (kind : AccessKind) → HaveSameCosts profile other →
    stages_of (costs_of profile) kind ≡ stages_of (costs_of other) kind
stages-same profile other Fetch same = stages-through profile other side.Fetch same
stages-same profile other Slot same = stages-through profile other side.Fetch same
stages-same profile other Loading same = stages-through profile other side.Load same
stages-same profile other Storing same = refl

all_stages-same : (profile other : Profile) (accesses : List Access) → HaveSameCosts profile other →
    sum_by (all_stages (costs_of profile)) accesses ≡ sum_by (all_stages (costs_of other)) accesses
all_stages-same profile other [] same = refl
all_stages-same profile other (access ∷ more) same =
    let rest = all_stages-same profile other more same in
    let first : all_stages (costs_of profile) access ≡ all_stages (costs_of other) access =
    ap (λ (stages : List ℕ). sum_by (λ (latency : ℕ). latency) stages) (stages-same profile other (kind_of access.role) same) in
    let left = sum_by-cons (all_stages (costs_of profile)) access more in
    let right = sum_by-cons (all_stages (costs_of other)) access more in
    omega (arith, rest, first, left, right)

full-content : (profile other : Profile) (number : ℕ) (content : Content) (address : ℕ) → HaveSameCosts profile other →
    content_full (costs_of profile) number content address ≡ content_full (costs_of other) number content address
full-content profile other number (Stands unit) address same =
    omega (
      arith,
      own-same profile other unit.instr same,
      slot-same profile other unit.slot same,
      all_stages-same profile other (unit_accesses number unit address) same,
    )
full-content profile other number (Fault kind place) address same = refl

full-at : (image : Image) (profile other : Profile) (number : ℕ) (place : Option Place) → HaveSameCosts profile other →
    full_at profile image number place ≡ full_at other image number place
full-at image profile other number None same = refl
full-at image profile other number (Some place) same =
    full-content profile other number (content_at image place.address) place.address same

pub same-full : (image : Image) (profile other : Profile) (net : Net) → HaveSameCosts profile other →
    full_price profile image net ≡ full_price other image net
same-full image profile other net same = fun_ext (λ number. full-at image profile other number (item_at number net.places) same)
