-- The net of a program is nested.
use Rattle.std.proofs.Common.{◌≡◌, ℕ, ◌+◌, ◌<◌, ◌≤◌, inl, inr, true, length, slice_get, Option, Some, None, refl, ap, subst, ◌∙◌, arith}
use Rattle.std.proofs.lemmas.Bool.Decides.{nat_tests}
use Rattle.std.proofs.lemmas.List.Elements.{All-contains}
use Rattle.elf_mips.specs.declared.image.Image.{Image}
use Rattle.elf_mips.specs.declared.mark.Mark.{Mark}
use Rattle.elf_mips.specs.Marks.{is_lawful}
use Rattle.flow_net.specs.Nested.{HasRanks, IsBack, IsEntered, IsNested}
use Rattle.flow_net.specs.Numbers.{IsNumberOrZero, item_at}
use Rattle.flow_net.specs.Paths.{IsRunPath}
use Rattle.flow_net.specs.Scopes.{HasScopes, Holds}
use Rattle.flow_net.specs.declared.net.Context.{Context}
use Rattle.flow_net.specs.declared.net.LoopInst.{LoopInst}
use Rattle.flow_net.specs.declared.net.Net.{Net}
use Rattle.flow_net.specs.declared.net.NetArc.{NetArc}
use Rattle.flow_net.specs.declared.net.Place.{Place}
use Rattle.loop_nest.specs.declared.nest.Nests.{Nests}
use Rattle.net_model.specs.Contexts.{made_by}
use Rattle.net_model.specs.Functions.{CanReturn, onward}
use Rattle.net_model.specs.Instances.{HoldsUnit, IsOuterOf, IsScopeOf, body, made}
use Rattle.net_model.specs.Loops.{IsBackArc, IsLoopBound, head, source}
use Rattle.net_model.specs.Net.{IsNet, LeadsTo, calls, comes_back, ends, goes}
use Rattle.net_model.specs.Places.{IsPlaceOf}
use Rattle.net_model.specs.Targets.{unit_at}
use Rattle.net_model.specs.declared.unit.CodeUnit.{CodeUnit}
use Rattle.net_model.specs.declared.unit.Content.TheVariants.{Unit as Stands}
use Rattle.unit_graph.specs.declared.graph.Graphs.{Graphs}
use Rattle.call_contexts.specs.Programs.{IsProgram}
use Rattle.call_contexts.proofs.Entering.{entering-arc, return-on}
use Rattle.call_contexts.proofs.Items.{rising-once}
use Rattle.call_contexts.proofs.NetItems.{all-by, own-place, place-once, place-positive, place-reached, placed-at, loop-within}
use Rattle.call_contexts.proofs.NetNumbers.{numbers-own}
use Rattle.call_contexts.proofs.NetPaths.{Enters, IsArcOf, Leads, arc-of, arc-out, comes-to, leads-from}
use Rattle.call_contexts.proofs.NetRanks.{AreRanked, back-rises, contexts-earlier, forward-rises, made-rises, numeral-of, program-ranked}
use Rattle.call_contexts.proofs.NetScopes.{chains-end, holds-loop, unit-holds}

module _ (image : Image) (entry : ℕ) (net : Net) (is : IsNet image entry net) (ranked : AreRanked image net.contexts) where
  -- Along each arc that is no back arc the numbers rise.
  abbrev number-of : Option Place → ℕ
  number-of None = 0
  number-of (Some place) = numeral-of image net ranked place.context place.address

  number-at : (number context address : ℕ) → IsPlaceOf net number context address →
      number-of (item_at number net.places) ≡ numeral-of image net ranked context address
  number-at number context address at =
      ap number-of at.there
      ∙ ap (λ (c : ℕ). numeral-of image net ranked c at.place.address) at.within
      ∙ ap (numeral-of image net ranked context) at.same

  -- An arc to a header from what its instance holds is a back arc of the net.
  back-arc : (from to context address parent source header : ℕ) (of : Context) → IsPlaceOf net from context address → IsPlaceOf net to parent header →
      slice_get net.contexts parent ≡ Some of → IsBackArc image of.target source header →
      ((scope : ℕ) → HoldsUnit image net scope parent source → HoldsUnit image net scope context address) →
      IsBack net (record { from = from; to = to })
  back-arc from to context address parent site header of at behind there arc holds =
      let scope = is.loops.whole parent header of there (record { from = site; arc = arc }) in record {
        scope = scope.0;
        inst = scope.1.inst;
        there = scope.1.there;
        header = place-once image entry net is to scope.1.inst.header parent header behind scope.1.at;
        held = unit-holds image entry net is ranked scope.0 from context address at
            (holds scope.0 (body parent header site scope.1 (record { of = of; there = there; held = source site arc })));
      }

  rises-by : (from to context address : ℕ) (unit : CodeUnit) → IsPlaceOf net from context address → unit_at image address ≡ Stands unit →
      0 < to → (IsBack net (record { from = from; to = to }) → ⊥) → LeadsTo image net unit context address to →
      (other later : ℕ) × (IsPlaceOf net to other later) × (numeral-of image net ranked context address < numeral-of image net ranked other later)
  rises-by from _ context address unit at stands arrives forward (goes to later listed behind) =
      let reaches = place-reached image entry net is from context address at in (
        context,
        later,
        behind,
        forward-rises image net ranked context reaches.context reaches.there address later reaches.reached (record {
          goes = onward address later unit stands listed;
          forward = λ arc. forward (back-arc from to context address context address later reaches.context at behind reaches.there arc
              (λ scope held. held));
        }),
      )
  rises-by from _ context address unit at stands arrives forward (calls to new callee listed positive there behind) = (
    new,
    callee,
    behind,
    made-rises image net ranked (contexts-earlier image entry net.contexts is.contexts) new
        (made_by context address callee) callee there positive,
  )
  rises-by from _ context address unit at stands arrives forward (comes_back to of leaves positive there behind) =
      let over = (is.contexts.made context of there positive).there in (
        of.parent,
        of.site + 8,
        behind,
        back-rises image net ranked (contexts-earlier image entry net.contexts is.contexts)
            context of over.context from address (of.site + 8) there positive at over.there over.reached (record {
              goes = return-on image entry net is context address of unit there positive
                  (place-reached image entry net is from context address at) stands leaves;
              forward = λ arc. forward (back-arc from to context address of.parent of.site (of.site + 8) over.context at behind over.there arc
                  (λ scope held. made context address of there positive held));
            }),
      )
  rises-by from _ context address unit at stands arrives forward (ends leaves same) = absurd (omega (arith, arrives))

  rises-along : (number : ℕ) (arc : NetArc) → 0 < arc.from → 0 < arc.to → (IsBack net arc → ⊥) → IsArcOf image entry net number arc →
      number-of (item_at arc.from net.places) < number-of (item_at arc.to net.places)
  rises-along number arc placed arrives forward (Enters one from at) = absurd (omega (arith, placed, from))
  rises-along number arc placed arrives forward (Leads more leads) =
      let at = own-place net arc.from leads.place leads.there in
      let rise = rises-by arc.from arc.to leads.place.context leads.place.address leads.unit at leads.stands arrives forward leads.leads in
      let one = number-at arc.from leads.place.context leads.place.address at in
      let two = number-at arc.to rise.0 rise.1 rise.2 in
      omega (arith, rise.3, one, two)

  pub net-ranks : HasRanks net
  net-ranks = record {
    rank = λ number. number-of (item_at number net.places);
    rises = λ number arc there placed arrives forward.
        rises-along number arc placed arrives forward (arc-of image entry net is number arc there);
  }

-- The scopes named in a net are its own, and their chains end.
scope-number : (image : Image) (net : Net) (context address scope : ℕ) → IsScopeOf image net context address scope → scope ≤ length net.loops
scope-number image net context address scope (inl (zero_scope, none)) = omega (arith, zero_scope)
scope-number image net context address scope (inr innermost) =
    let loop = holds-loop image net scope context address innermost.held in loop-within net scope loop.context loop.header loop.at

outer-number : (image : Image) (net : Net) (inner context header scope : ℕ) → IsOuterOf image net inner context header scope →
    scope ≤ length net.loops
outer-number image net inner context header scope (inl (zero_scope, none)) = omega (arith, zero_scope)
outer-number image net inner context header scope (inr outer) =
    let loop = holds-loop image net scope context header outer.held in loop-within net scope loop.context loop.header loop.at

scopes-own : (image : Image) (entry : ℕ) (net : Net) → IsNet image entry net → AreRanked image net.contexts → HasScopes net
scopes-own image entry net is ranked = record {
  places = all-by (λ (p : Place). IsNumberOrZero net.loops p.scope) net.places (λ n p there.
      scope-number image net p.context p.address p.scope (is.loops.scopes n p there));
  loops = all-by (λ (inst : LoopInst). IsNumberOrZero net.loops inst.outer) net.loops (λ n inst there.
      let one = is.loops.each n inst there in outer-number image net n one.context one.header inst.outer one.outer);
  chains = chains-end image entry net is ranked;
}

-- A run begins with arc 1, ends behind a return unit, and may come to each place.
only-first : (image : Image) (entry : ℕ) (net : Net) (number : ℕ) (arc : NetArc) → IsArcOf image entry net number arc → arc.from ≡ 0 → number ≡ 1
only-first image entry net number arc (Enters one from at) zero_from = one
only-first image entry net number arc (Leads more leads) zero_from =
    absurd (let positive = leads-from image net arc.from arc.to leads in omega (arith, positive, zero_from))

runs-in : (image : Image) (entry : ℕ) (net : Net) → IsNet image entry net → IsEntered net
runs-in image entry net is = record {
  first =
      let one = is.arcs.first in (one.0, one.1, one.2, place-positive net one.0.to 0 entry one.3);
  only = λ number arc there zero_from. only-first image entry net number arc (arc-of image entry net is number arc there) zero_from;
  reached = λ number numbered.
      let (place, there) = placed-at net number numbered in
      let comes = comes-to image entry net is place.context place.address (is.places.reached number place there) in
      let same : comes.number ≡ number =
      place-once image entry net is comes.number number place.context place.address comes.at (own-place net number place there) in
      (comes.numbers, subst (IsRunPath net.arcs comes.numbers) same comes.path);
}

-- The return of the entry function goes to 0.
end-arc : (image : Image) (entry : ℕ) (net : Net) → IsNet image entry net → CanReturn image entry →
    (number : ℕ) × ((arc : NetArc) × (item_at number net.arcs ≡ Some arc) × (arc.to ≡ 0))
end-arc image entry net is can =
    let out = arc-out image entry net is can in
    (out.1.number, (record { from = out.0; to = 0 }, out.1.there, refl))

-- An instance holds its header.
header-held : (image : Image) (entry : ℕ) (net : Net) → IsNet image entry net → AreRanked image net.contexts → (scope : ℕ) (inst : LoopInst) →
    item_at scope net.loops ≡ Some inst → Holds net scope inst.header
header-held image entry net is ranked scope inst there =
    let one = is.loops.each scope inst there in
    unit-holds image entry net is ranked scope inst.header one.context one.header one.at
    (body one.context one.header one.header (record { inst = inst; there = there; at = one.at })
    (record { of = one.is_loop.of; there = one.is_loop.there; held = head one.is_loop.headed }))

-- A loop's bound is at least 1, since its record is lawful.
lawful-bound : (mark : Mark) → is_lawful mark ≡ true → mark.kind ≡ 1 → 1 ≤ mark.x
lawful-bound mark lawful kind = grind (arith, nat_tests)

bound-some : (image : Image) (entry header bound : ℕ) → IsLoopBound image entry header bound → 1 ≤ bound
bound-some image entry header bound is =
    let lawful = All-contains (λ (m : Mark). is_lawful m ≡ true) image.marks is.mark image.lawful is.listed in
    let some = lawful-bound is.mark lawful is.named.bounds in omega (arith, some, is.same)

-- A net of contexts whose functions have ranks is nested where the entry function can return.
pub ranked-nested : (image : Image) (entry : ℕ) (net : Net) → IsNet image entry net → AreRanked image net.contexts → CanReturn image entry →
    IsNested net
ranked-nested image entry net is ranked can = record {
  numbers = numbers-own image entry net is;
  scopes = scopes-own image entry net is ranked;
  entered = runs-in image entry net is;
  left = end-arc image entry net is can;
  held = header-held image entry net is ranked;
  bounds = all-by (λ (inst : LoopInst). 1 ≤ inst.bound) net.loops (λ n inst there.
      let loop = (is.loops.each n inst there).is_loop in
      bound-some image loop.of.target (is.loops.each n inst there).header inst.bound loop.bounded);
  distinct = λ scope other inst another there also same.
      rising-once (λ (l : LoopInst). l.header) net.loops is.loops.rising scope other inst another there also same;
  entering = λ number scope arc inst arc_there there into outside.
      entering-arc image entry net is ranked number scope arc inst there into outside (arc-of image entry net is number arc arc_there);
  ranks = net-ranks image entry net is ranked;
}

-- The net of a program whose entry function can return is nested.
pub net-nested : (image : Image) (entry : ℕ) (graphs : Graphs) (nests : Nests) (net : Net) → IsProgram image entry graphs nests →
    IsNet image entry net → CanReturn image entry → IsNested net
net-nested image entry graphs nests net program is can =
    ranked-nested image entry net is (program-ranked image entry graphs nests net program is) can
