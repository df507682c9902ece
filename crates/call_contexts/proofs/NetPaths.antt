-- The arcs of a net: what each is, and that a path comes to each place.
use Rattle.std.proofs.Common.{◌≡◌, ℕ, zero, suc, ◌+◌, ◌<◌, inl, inr, List, [], ◌∷◌, ◌++◌, Contains, slice_get, Some, refl, sym, ap, subst, ◌∙◌, arith}
use Rattle.std.proofs.lemmas.Bool.{cases_eq}
use Rattle.std.proofs.lemmas.Option.{none-some}
use Rattle.elf_mips.specs.declared.image.Image.{Image}
use Rattle.flow_net.specs.Numbers.{item_at}
use Rattle.flow_net.specs.Paths.{IsPath, IsRunPath}
use Rattle.flow_net.specs.declared.net.Context.{Context}
use Rattle.flow_net.specs.declared.net.Net.{Net}
use Rattle.flow_net.specs.declared.net.NetArc.{NetArc}
use Rattle.net_model.specs.Contexts.{Reaches, made_by, root}
use Rattle.net_model.specs.Flow.{called}
use Rattle.net_model.specs.Functions.{CanReturn, GoesOn, IsReached, back, first, next, onward, returned}
use Rattle.net_model.specs.Net.{IsNet, LeadsOn, LeadsTo, calls, comes_back, ends, goes}
use Rattle.net_model.specs.Places.{IsPlaceOf}
use Rattle.net_model.specs.Targets.{unit_at}
use Rattle.net_model.specs.declared.unit.CodeUnit.{CodeUnit}
use Rattle.net_model.specs.declared.unit.Content.TheVariants.{Unit as Stands}
use Rattle.flow_net.proofs.Numbers.{item_at-same}
use Rattle.call_contexts.proofs.Items.{item-positive}
use Rattle.call_contexts.proofs.NetItems.{context-at, place-positive}

-- What an arc of a number is: arc 1, or a way on, a call or a return.
pub data IsArcOf (image : Image) (entry : ℕ) (net : Net) (number : ℕ) (arc : NetArc) : Type 0 where
  Enters : number ≡ 1 → arc.from ≡ 0 → IsPlaceOf net arc.to 0 entry → IsArcOf image entry net number arc
  Leads : 1 < number → LeadsOn image net arc.from arc.to → IsArcOf image entry net number arc

pub arc-of : (image : Image) (entry : ℕ) (net : Net) → IsNet image entry net → (number : ℕ) (arc : NetArc) →
    item_at number net.arcs ≡ Some arc → IsArcOf image entry net number arc
arc-of image entry net is zero arc there = absurd (none-some arc there)
arc-of image entry net is (suc zero) arc there =
    let one = is.arcs.first in
    let same : one.0 ≡ arc = item_at-same net.arcs 1 one.0 arc one.1 there in
    Enters refl (ap (λ (a : NetArc). a.from) (sym same) ∙ one.2)
    (subst (λ (a : NetArc). IsPlaceOf net a.to 0 entry) same one.3)
arc-of image entry net is (suc (suc n)) arc there =
    Leads (omega arith) (is.arcs.ways (suc (suc n)) arc there (omega arith))

pub leads-from : (image : Image) (net : Net) (from to : ℕ) → LeadsOn image net from to → 0 < from
leads-from image net from to leads = item-positive net.places from leads.place leads.there

-- The arc from one place to another.
pub record ArcOf (net : Net) (from to : ℕ) : Type 0 where
  pub number : ℕ
  pub there : item_at number net.arcs ≡ Some (record { from = from; to = to })

pub leads-on : (image : Image) (entry : ℕ) (net : Net) → IsNet image entry net → (from to context address : ℕ) (unit : CodeUnit) →
    IsPlaceOf net from context address → unit_at image address ≡ Stands unit → LeadsTo image net unit context address to → ArcOf net from to
leads-on image entry net is from to context address unit at stands leads =
    let arc = is.arcs.arcs from to (record {
      place = at.place;
      there = at.there;
      unit = unit;
      stands = ap (unit_at image) at.same ∙ stands;
      leads = subst (λ (c : ℕ). LeadsTo image net unit c at.place.address to) (sym at.within)
          (subst (λ (a : ℕ). LeadsTo image net unit context a to) (sym at.same) leads);
    }) in
    record { number = arc.0; there = arc.2 }

-- Paths go on from one another.
pub path-append : (arcs : List NetArc) (numbers more : List ℕ) (from mid to : ℕ) → IsPath arcs from numbers mid → IsPath arcs mid more to →
    IsPath arcs from (numbers ++ more) to
path-append arcs [] more from mid to path rest = subst (λ (n : ℕ). IsPath arcs n more to) (sym path) rest
path-append arcs (one ∷ numbers) more from mid to path rest =
    (path.0, (path.1.0, path.1.1, path.1.2, path-append arcs numbers more path.1.0.to mid to path.1.3 rest))

pub run-append : (arcs : List NetArc) (numbers more : List ℕ) (mid to : ℕ) → IsRunPath arcs numbers mid → IsPath arcs mid more to →
    IsRunPath arcs (numbers ++ more) to
run-append arcs [] more mid to path rest = absurd path
run-append arcs (one ∷ numbers) more mid to path rest =
    (path.0, (path.1.0, path.1.1, path.1.2, path-append arcs numbers more path.1.0.to mid to path.1.3 rest))

pub arc-path : (net : Net) (from to : ℕ) → 0 < from → (arc : ArcOf net from to) → IsPath net.arcs from (arc.number ∷ []) to
arc-path net from to positive arc = (positive, (record { from = from; to = to }, arc.there, refl, refl))

-- A path from a place to that of a unit in a context.
pub record IsWayTo (net : Net) (number context address : ℕ) : Type 0 where
  pub to : ℕ
  pub at : IsPlaceOf net to context address
  pub numbers : List ℕ
  pub path : IsPath net.arcs number numbers to

-- A path of a run that comes to the place of a unit in a context.
pub record ComesTo (net : Net) (context address : ℕ) : Type 0 where
  pub number : ℕ
  pub at : IsPlaceOf net number context address
  pub numbers : List ℕ
  pub path : IsRunPath net.arcs numbers number

module _ (image : Image) (entry : ℕ) (net : Net) (is : IsNet image entry net) where
  way-more : (number context address to other later : ℕ) (unit : CodeUnit) → IsWayTo net number context address →
      unit_at image address ≡ Stands unit → LeadsTo image net unit context address to → IsPlaceOf net to other later →
      IsWayTo net number other later
  way-more number context address to other later unit way stands leads at =
      let arc = leads-on image entry net is way.to to context address unit way.at stands leads in record {
        to = to;
        at = at;
        numbers = way.numbers ++ arc.number ∷ [];
        path = path-append net.arcs way.numbers (arc.number ∷ []) number way.to to way.path
            (arc-path net way.to to (place-positive net way.to context address way.at) arc);
      }

  no-way : (number context address : ℕ) → IsPlaceOf net number context address → IsWayTo net number context address
  no-way number context address at = record { to = number; at = at; numbers = []; path = refl }

  -- A call goes on at the entry's place of the context that it makes.
  call-way : (number context address made callee : ℕ) (unit : CodeUnit) → IsWayTo net number context address →
      unit_at image address ≡ Stands unit → Contains (called image unit address) callee → 0 < made →
      slice_get net.contexts made ≡ Some (made_by context address callee) → IsWayTo net number made callee
  call-way number context address made callee unit way stands listed positive there =
      let at = is.places.whole made callee (record { context = made_by context address callee; there = there; reached = first callee }) in
      way-more number context address at.0 made callee unit way stands (calls at.0 made callee listed positive there at.1) at.1

  mutual
    -- A path leads from the entry's place of a context to the place of each unit that its function reaches.
    pub reach-way : (function address : ℕ) → IsReached image function address → (number context : ℕ) (of : Context) →
        slice_get net.contexts context ≡ Some of → of.target ≡ function → IsPlaceOf net number context function →
        IsWayTo net number context address
    reach-way _ _ (first function) number context of there same at = no-way number context function at
    reach-way _ _ (next function address later reached on) number context of there same at =
        let way = reach-way function address reached number context of there same at in
        let here : IsReached image of.target address = subst (λ (f : ℕ). IsReached image f address) (sym same) reached in
        let behind = is.places.whole context later (record { context = of; there = there; reached = next of.target address later here on }) in
        goes-way address later on number context of there here way behind.0 behind.1

    goes-way : (address later : ℕ) → GoesOn image address later → (number context : ℕ) (of : Context) →
        slice_get net.contexts context ≡ Some of → IsReached image of.target address → IsWayTo net number context address →
        (to : ℕ) → IsPlaceOf net to context later → IsWayTo net number context later
    goes-way _ _ (onward address later unit stands listed) number context of there reached way to at =
        way-more number context address to context later unit way stands (goes to later listed at) at
    goes-way _ _ (back address callee unit stands listed can) number context of there reached way to at =
        let new = is.contexts.whole context address callee (record { context = of; there = there; reached = reached })
        (record { unit = unit; stands = stands; called = listed }) in
        let call = call-way number context address new.0 callee unit way stands listed new.1 new.2 in
        let home = return-way callee can call.to new.0 (made_by context address callee) new.2 refl new.1 call.at to at in
        record {
          to = home.to;
          at = home.at;
          numbers = call.numbers ++ home.numbers;
          path = path-append net.arcs call.numbers home.numbers number call.to home.to call.path home.path;
        }

    return-way : (function : ℕ) → CanReturn image function → (number context : ℕ) (of : Context) →
        slice_get net.contexts context ≡ Some of → of.target ≡ function → 0 < context → IsPlaceOf net number context function →
        (to : ℕ) → IsPlaceOf net to of.parent (of.site + 8) → IsWayTo net number of.parent (of.site + 8)
    return-way _ (returned function address unit reached stands leaves) number context of there same positive at to behind =
        let way = reach-way function address reached number context of there same at in
        way-more number context address to of.parent (of.site + 8) unit way stands (comes_back to of leaves positive there behind) behind

  goes-along : (context address other later : ℕ) (to : ComesTo net context address) → IsWayTo net to.number other later → ComesTo net other later
  goes-along context address other later to way = record {
    number = way.to;
    at = way.at;
    numbers = to.numbers ++ way.numbers;
    path = run-append net.arcs to.numbers way.numbers to.number way.to to.path way.path;
  }

  comes-within : (context address : ℕ) (of : Context) → slice_get net.contexts context ≡ Some of → IsReached image of.target address →
      ComesTo net context of.target → ComesTo net context address
  comes-within context address of there reached to =
      goes-along context of.target context address to (reach-way of.target address reached to.number context of there refl to.at)

  comes-first : (context : ℕ) (of : Context) → slice_get net.contexts context ≡ Some of → context ≡ 0 → ComesTo net context of.target
  comes-first context of there zero_context =
      let same : root entry ≡ of = context-at net.contexts 0 (root entry) of is.contexts.first
      (subst (λ (c : ℕ). slice_get net.contexts c ≡ Some of) zero_context there) in
      let arc = is.arcs.first in
      record {
        number = arc.0.to;
        at = subst (λ (c : ℕ). IsPlaceOf net arc.0.to c of.target) (sym zero_context)
            (subst (λ (c : Context). IsPlaceOf net arc.0.to 0 c.target) same arc.3);
        numbers = 1 ∷ [];
        path = (refl, (arc.0, arc.1, arc.2, refl));
      }

  comes-made : (context : ℕ) (of : Context) → slice_get net.contexts context ≡ Some of → 0 < context →
      ((over : Context) → slice_get net.contexts of.parent ≡ Some over → of.parent < context → ComesTo net of.parent over.target) →
      ComesTo net context of.target
  comes-made context of there positive before =
      let by = is.contexts.made context of there positive in
      let to = comes-within of.parent of.site by.there.context by.there.there by.there.reached (before by.there.context by.there.there by.earlier) in
      goes-along of.parent of.site context of.target to
      (call-way to.number of.parent of.site context of.target by.calls.unit (no-way to.number of.parent of.site to.at) by.calls.stands
      by.calls.called positive there)

  comes-entry : (n context : ℕ) (of : Context) → context < n → slice_get net.contexts context ≡ Some of → ComesTo net context of.target
  comes-entry zero context of low there = absurd (omega (arith, low))
  comes-entry (suc n) context of low there = elim (cases_eq context 0) as (λ _. ComesTo net context of.target) [
    | inl zero_context ↦ comes-first context of there zero_context
    | inr further ↦ comes-made context of there (omega (arith, further))
        (λ over at less. comes-entry n of.parent over (omega (arith, less, low)) at)
  ]

  -- A path comes to each place.
  pub comes-to : (context address : ℕ) → Reaches image net.contexts context address → ComesTo net context address
  comes-to context address reaches =
      comes-within context address reaches.context reaches.there reaches.reached
      (comes-entry (suc context) context reaches.context (omega arith) reaches.there)

  -- An arc goes to 0 from the place of a return unit of the entry function.
  pub arc-out : CanReturn image entry → (from : ℕ) × ArcOf net from 0
  arc-out (returned _ address unit reached stands leaves) =
      let at = is.places.whole 0 address (record { context = root entry; there = is.contexts.first; reached = reached }) in
      (at.0, leads-on image entry net is at.0 0 0 address unit at.1 stands (ends leaves refl))
