-- The first fault of the code, by what stands at its addresses and by the functions that call themselves.
use Rattle.std.proofs.Common.{◌≡◌, ℕ, ◌<◌, List, map, All, Option, Some, None, refl, sym, subst, ap, arith, inl, inr}
use Rattle.std.specs.Prelude.{Contains}
use Rattle.std.proofs.lemmas.List.Elements.{All-contains}
use Rattle.elf_mips.specs.declared.image.Image.{Image}
use Rattle.net_model.specs.declared.unit.CodeKind.{CodeKind}
use Rattle.net_model.specs.declared.unit.CodeKind.TheVariants.{Recursion}
use Rattle.net_model.specs.declared.unit.Content.{Content}
use Rattle.net_model.specs.declared.unit.Content.TheVariants.{Fault}
use Rattle.net_model.specs.Faults.{HasNoFault, IsCode, IsFirstFault, Offends, faulty, rank, recursive}
use Rattle.net_model.specs.Functions.{IsRecursive}
use Rattle.net_model.specs.Targets.{unit_at}
use Rattle.net_model.proofs.UnitFaults.{unit_rank}
use Rattle.unit_graph.specs.declared.first.Offence.{Offence}
use Rattle.unit_graph.specs.Firsts.{Follows, IsAmong, IsFaulty, IsFirstFaulty}
use Rattle.unit_graph.specs.Graphs.{AreJust}
use Rattle.unit_graph.specs.Recursion.{IsFirstRecursive}
use Rattle.code_units.proofs.Lists.{Contains-map, preimage}

-- What stands at the addresses is listed.
follows : (image : Image) (entry : ℕ) (code : List ℕ) (contents : List Content) (first : Option Offence) (kind : CodeKind) (place : ℕ) →
    AreJust (IsCode image entry) code → contents ≡ map (unit_at image) code →
    All (Follows first) contents → IsFaulty image entry kind place → Follows first (Fault kind place)
follows image entry code contents first kind place are e all is =
    subst (Follows first) is.faulty
    (All-contains (Follows first) contents (unit_at image is.address) all
    (subst (λ (some : List Content). Contains some (unit_at image is.address)) (sym e)
    (Contains-map (unit_at image) code is.address (are.whole is.address is.code))))

-- Each item of a list of contents is that of an address of the code.
pub IsFirstFaulty-found : (image : Image) (entry : ℕ) (code : List ℕ) (contents : List Content) (first : Option Offence) →
    AreJust (IsCode image entry) code → contents ≡ map (unit_at image) code → IsAmong first contents →
    All (Follows first) contents → IsFirstFaulty image entry first
IsFirstFaulty-found image entry code contents None are e among all =
    λ kind place is. follows image entry code contents None kind place are e all is
IsFirstFaulty-found image entry code contents (Some offence) are e among all = (
  record { address = from.0; code = are.sound from.0 from.1; faulty = from.2 },
  λ kind place is. follows image entry code contents (Some offence) kind place are e all is,
)
  where
    fault : Content
    fault = Fault offence.kind offence.place

    from : (address : ℕ) × Contains code address × (unit_at image address ≡ fault)
    from =
        preimage (unit_at image) code fault
        (subst (λ (some : List Content). Contains some fault) e among)

-- An offender of an early kind is a unit's.
early : (image : Image) (entry : ℕ) (kind : CodeKind) (place : ℕ) → rank kind < 5 → Offends image entry kind place → IsFaulty image entry kind place
early image entry _ _ low (faulty kind place address code e) = record { address = address; code = code; faulty = e }
early image entry _ _ low (recursive function is) = absurd (omega arith)

pub IsFirstFault-unit : (image : Image) (entry : ℕ) (offence : Offence) → IsFirstFaulty image entry (Some offence) →
    IsFirstFault image entry offence.kind offence.place
IsFirstFault-unit image entry offence is = record {
  offends = faulty offence.kind offence.place is.0.address is.0.code is.0.faulty;
  first = λ other lesser before offends.
      elim (is.1 other lesser (early image entry other lesser (omega (arith, low, before)) offends)) [
        | inl p ↦ omega (arith, p, before)
        | inr q ↦ omega (arith, q.0, before)
      ];
  least = λ lesser before offends.
      elim (is.1 offence.kind lesser (early image entry offence.kind lesser low offends)) [
        | inl p ↦ omega (arith, p, before)
        | inr q ↦ omega (arith, q.1, before)
      ];
}
  where
    low : rank offence.kind < 5
    low = unit_rank image is.0.address offence.kind offence.place is.0.faulty

-- Where no unit has a fault, the offenders are the functions that call themselves.
only_recursive : (image : Image) (entry : ℕ) → IsFirstFaulty image entry None → (kind : CodeKind) (place : ℕ) → Offends image entry kind place →
    (kind ≡ Recursion) × IsRecursive image entry place
only_recursive image entry none _ _ (faulty kind place address code e) = absurd (none kind place (record { address = address; code = code; faulty = e }))
only_recursive image entry none _ _ (recursive function is) = (refl, is)

pub IsFirstFault-recursion : (image : Image) (entry function : ℕ) → IsFirstFaulty image entry None →
    IsFirstRecursive image entry (Some function) → IsFirstFault image entry Recursion function
IsFirstFault-recursion image entry function none is = record {
  offends = recursive function is.0;
  first = λ other lesser before offends.
      let e = ap rank (only_recursive image entry none other lesser offends).0 in omega (arith, e, before);
  least = λ lesser before offends. is.1 lesser before (only_recursive image entry none Recursion lesser offends).1;
}

pub HasNoFault-none : (image : Image) (entry : ℕ) → IsFirstFaulty image entry None → IsFirstRecursive image entry None →
    HasNoFault image entry
HasNoFault-none image entry none not = λ kind place offends. not place (only_recursive image entry none kind place offends).1
