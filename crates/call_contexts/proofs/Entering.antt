-- An arc into a loop instance from outside goes to its header, also where it calls or returns.
use Rattle.std.proofs.Common.{◌≡◌, ℕ, ◌+◌, ◌<◌, ◌⊎◌, inl, inr, true, slice_get, Some, refl, sym, ap, subst, ◌∙◌, arith}
use Rattle.std.proofs.lemmas.Option.{none-some}
use Rattle.elf_mips.specs.declared.image.Image.{Image}
use Rattle.flow_net.specs.Numbers.{item_at}
use Rattle.flow_net.specs.Scopes.{Holds}
use Rattle.flow_net.specs.declared.net.Context.{Context}
use Rattle.flow_net.specs.declared.net.LoopInst.{LoopInst}
use Rattle.flow_net.specs.declared.net.Net.{Net}
use Rattle.flow_net.specs.declared.net.NetArc.{NetArc}
use Rattle.loop_nest.proofs.Dominance.{entered-at-header, entry-header, same_or_other}
use Rattle.net_model.specs.Contexts.{Reaches, made_by, root}
use Rattle.net_model.specs.Functions.{CallsAt, CanReturn, GoesOn, IsReached, back, onward, returned}
use Rattle.net_model.specs.Instances.{HoldsUnit, IsLoopAt, body, made}
use Rattle.net_model.specs.Loops.{IsInBody}
use Rattle.net_model.specs.Net.{IsNet, LeadsTo, calls, comes_back, ends, goes}
use Rattle.net_model.specs.Onward.{returns}
use Rattle.net_model.specs.Places.{IsPlaceOf}
use Rattle.net_model.specs.Targets.{unit_at}
use Rattle.net_model.specs.declared.unit.CodeUnit.{CodeUnit}
use Rattle.net_model.specs.declared.unit.Content.TheVariants.{Unit as Stands}
use Rattle.flow_net.proofs.Numbers.{item_at-same}
use Rattle.call_contexts.proofs.NetItems.{context-at, own-place, place-once, place-reached}
use Rattle.call_contexts.proofs.NetPaths.{Enters, IsArcOf, Leads}
use Rattle.call_contexts.proofs.NetRanks.{AreRanked}
use Rattle.call_contexts.proofs.NetScopes.{LoopHere, holds-unit, unit-holds}

-- A call whose function can return goes on behind its slot.
pub call-back : (image : Image) (site callee : ℕ) → CallsAt image site callee → CanReturn image callee → GoesOn image site (site + 8)
call-back image site callee by can = back site callee by.unit by.stands by.called can

-- What comes back from a context goes on behind the call that made it.
pub return-on : (image : Image) (entry : ℕ) (net : Net) → IsNet image entry net → (context address : ℕ) (of : Context) (unit : CodeUnit) →
    slice_get net.contexts context ≡ Some of → 0 < context → Reaches image net.contexts context address →
    unit_at image address ≡ Stands unit → returns unit ≡ true → GoesOn image of.site (of.site + 8)
return-on image entry net is context address of unit there positive reaches stands leaves =
    let same = context-at net.contexts context reaches.context of reaches.there there in
    call-back image of.site of.target (is.contexts.made context of there positive).calls
    (returned of.target address unit (subst (λ (c : Context). IsReached image c.target address) same reaches.reached) stands leaves)

module _ (image : Image) (net : Net) (scope : ℕ) where
  -- A way into an instance from a unit that it doesn't hold goes to its header.
  enters-on : (context later address : ℕ) → Reaches image net.contexts context address → GoesOn image address later →
      (HoldsUnit image net scope context address → ⊥) → HoldsUnit image net scope context later → IsLoopAt net scope context later
  enters-on _ _ address reaches on outside (body context header later at held) =
      by_case (same_or_other later header)
    where
      reached : IsReached image held.of.target address
      reached = subst (λ (c : Context). IsReached image c.target address)
          (context-at net.contexts context reaches.context held.of reaches.there held.there) reaches.reached

      by_case : ((later ≡ header) ⊎ (later ≡ header → ⊥)) → IsLoopAt net scope context later
      by_case (inl same) = subst (IsLoopAt net scope context) (sym same) at
      by_case (inr differ) = absurd (outside (body context header address at (record {
        of = held.of;
        there = held.there;
        held = entered-at-header image held.of.target header address later reached on held.held differ;
      })))
  enters-on _ _ address reaches on outside (made context later of there positive rest) =
      absurd (outside (made context address of there positive rest))

  -- So does a call.
  enters-call : (context callee parent site : ℕ) → slice_get net.contexts context ≡ Some (made_by parent site callee) →
      (HoldsUnit image net scope parent site → ⊥) → HoldsUnit image net scope context callee → IsLoopAt net scope context callee
  enters-call _ _ parent site there outside (body context header callee at held) =
      let same : held.of.target ≡ callee = ap (λ (c : Context). c.target)
      (context-at net.contexts context held.of (made_by parent site callee) held.there there) in
      subst (IsLoopAt net scope context)
      (sym (entry-header image callee header (subst (λ (f : ℕ). IsInBody image f header callee) same held.held))) at
  enters-call _ _ parent site there outside (made context callee of at positive rest) =
      let same = context-at net.contexts context of (made_by parent site callee) at there in
      absurd (outside (subst (λ (c : Context). HoldsUnit image net scope c.parent c.site) same rest))

  -- So does the begin of a run.
  enters-first : (entry context address : ℕ) → slice_get net.contexts context ≡ Some (root entry) → context ≡ 0 → address ≡ entry →
      HoldsUnit image net scope context address → IsLoopAt net scope context address
  enters-first entry _ _ there zero_context same (body context header address at held) =
      let own : held.of.target ≡ entry = ap (λ (c : Context). c.target)
      (context-at net.contexts context held.of (root entry) held.there there) in
      subst (IsLoopAt net scope context)
      (sym (same ∙ entry-header image entry header
      (subst (IsInBody image entry header) same (subst (λ (f : ℕ). IsInBody image f header address) own held.held)))) at
  enters-first entry _ _ there zero_context same (made context address of at positive rest) = absurd (omega (arith, positive, zero_context))

module _ (image : Image) (entry : ℕ) (net : Net) (is : IsNet image entry net) (ranked : AreRanked image net.contexts) where
  -- An arc into a loop instance from outside goes to its header.
  entering-unit : (scope from to context address : ℕ) (unit : CodeUnit) (loop : LoopHere net scope) → IsPlaceOf net from context address →
      unit_at image address ≡ Stands unit → (Holds net scope from → ⊥) → Holds net scope to → LeadsTo image net unit context address to →
      (other later : ℕ) × (IsPlaceOf net to other later) × IsLoopAt net scope other later
  entering-unit scope from _ context address unit loop at stands outside into (goes to later listed behind) = (
    context,
    later,
    behind,
    enters-on image net scope context later address (place-reached image entry net is from context address at)
        (onward address later unit stands listed) (λ held. outside (unit-holds image entry net is ranked scope from context address at held))
        (holds-unit image entry net is scope to context later loop behind into),
  )
  entering-unit scope from _ context address unit loop at stands outside into (calls to new callee listed positive there behind) = (
    new,
    callee,
    behind,
    enters-call image net scope new callee context address there
        (λ held. outside (unit-holds image entry net is ranked scope from context address at held))
        (holds-unit image entry net is scope to new callee loop behind into),
  )
  entering-unit scope from _ context address unit loop at stands outside into (comes_back to of leaves positive there behind) = (
    of.parent,
    of.site + 8,
    behind,
    enters-on image net scope of.parent (of.site + 8) of.site
        (is.contexts.made context of there positive).there
        (return-on image entry net is context address of unit there positive
        (place-reached image entry net is from context address at) stands leaves)
        (λ held. outside (unit-holds image entry net is ranked scope from context address at (made context address of there positive held)))
        (holds-unit image entry net is scope to of.parent (of.site + 8) loop behind into),
  )
  entering-unit scope from _ context address unit loop at stands outside into (ends leaves same) =
      absurd (none-some into.place into.there)

  header-place : (scope to context address : ℕ) (inst : LoopInst) → item_at scope net.loops ≡ Some inst → IsPlaceOf net to context address →
      IsLoopAt net scope context address → to ≡ inst.header
  header-place scope to context address inst there at loop =
      place-once image entry net is to loop.inst.header context address at loop.at
      ∙ ap (λ (l : LoopInst). l.header) (item_at-same net.loops scope loop.inst inst loop.there there)

  pub entering-arc : (number scope : ℕ) (arc : NetArc) (inst : LoopInst) → item_at scope net.loops ≡ Some inst → Holds net scope arc.to →
      (Holds net scope arc.from → ⊥) → IsArcOf image entry net number arc → arc.to ≡ inst.header
  entering-arc number scope arc inst there into outside (Enters one from at) =
      let own = is.loops.each scope inst there in
      let loop : LoopHere net scope = record { context = own.context; header = own.header; at = record { inst = inst; there = there; at = own.at } } in
      header-place scope arc.to 0 entry inst there at
      (enters-first image net scope entry 0 entry is.contexts.first refl refl (holds-unit image entry net is scope arc.to 0 entry loop at into))
  entering-arc number scope arc inst there into outside (Leads more leads) =
      let own = is.loops.each scope inst there in
      let loop : LoopHere net scope = record { context = own.context; header = own.header; at = record { inst = inst; there = there; at = own.at } } in
      let at = entering-unit scope arc.from arc.to leads.place.context leads.place.address leads.unit loop
      (own-place net arc.from leads.place leads.there) leads.stands outside into leads.leads in
      header-place scope arc.to at.0 at.1 inst there at.2 at.3
