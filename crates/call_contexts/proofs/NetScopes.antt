-- A loop instance holds just the places of the units that it holds by the bodies of loops and by calls.
use Rattle.std.proofs.Common.{◌≡◌, ℕ, zero, suc, ◌<◌, ◌≤◌, ◌⊎◌, inl, inr, List, Option, Some, None, ap, subst, ◌∙◌, arith}
use Rattle.std.proofs.lemmas.Option.{none-some}
use Rattle.elf_mips.specs.declared.image.Image.{Image}
use Rattle.flow_net.specs.Numbers.{item_at}
use Rattle.flow_net.specs.Scopes.{ChainsEnd, Holds, IsWithin, here, out}
use Rattle.flow_net.specs.declared.net.Context.{Context}
use Rattle.flow_net.specs.declared.net.LoopInst.{LoopInst}
use Rattle.flow_net.specs.declared.net.Net.{Net}
use Rattle.flow_net.specs.declared.net.Place.{Place}
use Rattle.net_model.specs.Instances.{HoldsUnit, IsInBodyOf, IsInstance, IsLoopAt, IsOuterOf, IsScopeOf, body, made}
use Rattle.net_model.specs.Loops.{IsInBody}
use Rattle.net_model.specs.Net.{IsNet}
use Rattle.net_model.specs.Places.{IsPlaceOf}
use Rattle.loop_nest.proofs.Dominance.{same_or_other}
use Rattle.loop_nest.proofs.Laminar.{inside}
use Rattle.flow_net.proofs.Numbers.{item_at-same}
use Rattle.call_contexts.proofs.NetItems.{context-at, loop-header, loop-of, loop-once, no-loop, scope-at}
use Rattle.call_contexts.proofs.NetRanks.{AreRanked, contexts-earlier, header-least, header-less, made-rises, numeral-of}

-- Only the run is round the run.
within-run : (loops : List LoopInst) (outer scope : ℕ) → scope ≡ 0 → IsWithin loops outer scope → outer ≡ 0
within-run loops outer _ same here = same
within-run loops outer _ same (out scope inst there rest) =
    absurd (none-some inst (subst (λ (s : ℕ). item_at s loops ≡ Some inst) same there))

-- What holds something is a loop instance.
pub record LoopHere (net : Net) (scope : ℕ) : Type 0 where
  pub context : ℕ
  pub header : ℕ
  pub at : IsLoopAt net scope context header

pub holds-loop : (image : Image) (net : Net) (scope context address : ℕ) → HoldsUnit image net scope context address → LoopHere net scope
holds-loop image net scope _ _ (body context header address at held) = record { context = context; header = header; at = at }
holds-loop image net scope _ _ (made context address of there positive rest) = holds-loop image net scope of.parent of.site rest

-- The body of a loop whose header lies in another body.
body-inside : (image : Image) (net : Net) (context outer header address : ℕ) → IsInBodyOf image net context outer header →
    IsInBodyOf image net context header address → IsInBodyOf image net context outer address
body-inside image net context outer header address around inner = record {
  of = around.of;
  there = around.there;
  held = inside image around.of.target header outer around.held address
      (subst (λ (c : Context). IsInBody image c.target header address)
      (context-at net.contexts context inner.of around.of inner.there around.there) inner.held);
}

-- What holds a loop's header holds its body.
held-body : (image : Image) (net : Net) (scope context header address : ℕ) → HoldsUnit image net scope context header →
    IsInBodyOf image net context header address → HoldsUnit image net scope context address
held-body image net scope _ _ address (body context outer header at around) inner =
    body context outer address at (body-inside image net context outer header address around inner)
held-body image net scope _ _ address (made context header of there positive rest) inner = made context address of there positive rest

-- What holds a loop instance's header holds all that the instance holds.
pub held-through : (image : Image) (net : Net) (inner outer context header : ℕ) → IsLoopAt net inner context header →
    HoldsUnit image net outer context header → (at address : ℕ) → HoldsUnit image net inner at address →
    HoldsUnit image net outer at address
held-through image net inner outer context header is around _ _ (body at head address own held) =
    let same = loop-header net inner context header at head is own in
    held-body image net outer at head address
    (subst (λ (c : ℕ). HoldsUnit image net outer c head) same.0 (subst (HoldsUnit image net outer context) same.1 around)) held
held-through image net inner outer context header is around _ _ (made at address of there positive rest) =
    made at address of there positive (held-through image net inner outer context header is around of.parent of.site rest)

module _ (image : Image) (entry : ℕ) (net : Net) (is : IsNet image entry net) where
  -- A scope within another one: what the inner one holds the outer one holds.
  outward : (outer scope : ℕ) (inst : LoopInst) → LoopHere net outer → item_at scope net.loops ≡ Some inst →
      IsInstance image net scope inst → IsWithin net.loops outer inst.outer → (context address : ℕ) →
      HoldsUnit image net scope context address → (HoldsUnit image net inst.outer context address → HoldsUnit image net outer context address) →
      HoldsUnit image net outer context address
  outward outer scope inst loop there one rest context address held onward = by_outer one.outer where
    by_outer : IsOuterOf image net scope one.context one.header inst.outer → HoldsUnit image net outer context address
    by_outer (inl (zero_outer, none)) =
        absurd (no-loop net loop.context loop.header
        (subst (λ (s : ℕ). IsLoopAt net s loop.context loop.header) (within-run net.loops outer inst.outer zero_outer rest) loop.at))
    by_outer (inr next) =
        onward (held-through image net scope inst.outer one.context one.header
        (record { inst = inst; there = there; at = one.at }) next.held context address held)

  within-holds : (outer : ℕ) → LoopHere net outer → (inner : ℕ) → IsWithin net.loops outer inner → (context address : ℕ) →
      HoldsUnit image net inner context address → HoldsUnit image net outer context address
  within-holds outer loop _ here context address held = held
  within-holds outer loop _ (out scope inst there rest) context address held =
      outward outer scope inst loop there (is.loops.each scope inst there) rest context address held
      (λ more. within-holds outer loop inst.outer rest context address more)

  -- A place that an instance holds is that of a unit that it holds.
  pub holds-unit : (scope number context address : ℕ) → LoopHere net scope → IsPlaceOf net number context address →
      Holds net scope number → HoldsUnit image net scope context address
  holds-unit scope number context address loop placed holds = by_scope (scope-at image entry net is number context address placed) where
    within : IsWithin net.loops scope placed.place.scope
    within = subst (λ (p : Place). IsWithin net.loops scope p.scope)
        (item_at-same net.places number holds.place placed.place holds.there placed.there) holds.within

    by_scope : IsScopeOf image net context address placed.place.scope → HoldsUnit image net scope context address
    by_scope (inl (zero_scope, none)) =
        absurd (no-loop net loop.context loop.header
        (subst (λ (s : ℕ). IsLoopAt net s loop.context loop.header) (within-run net.loops scope placed.place.scope zero_scope within) loop.at))
    by_scope (inr innermost) = within-holds scope loop placed.place.scope within context address innermost.held

module _ (image : Image) (entry : ℕ) (net : Net) (is : IsNet image entry net) (ranked : AreRanked image net.contexts) where
  -- The header of an instance has no greater number than what the instance holds, and a lesser one than other headers.
  held-numeral : (scope : ℕ) (loop : LoopHere net scope) (context address : ℕ) → HoldsUnit image net scope context address →
      numeral-of image net ranked loop.context loop.header ≤ numeral-of image net ranked context address
  held-numeral scope loop _ _ (body context header address at held) =
      let same = loop-header net scope loop.context loop.header context header loop.at at in
      let equal : numeral-of image net ranked loop.context loop.header ≡ numeral-of image net ranked context header =
      ap (λ (c : ℕ). numeral-of image net ranked c loop.header) same.0 ∙ ap (numeral-of image net ranked context) same.1 in
      let least = header-least image net ranked context held.of held.there header address held.held in
      omega (arith, equal, least)
  held-numeral scope loop _ _ (made context address of there positive rest) =
      let before = held-numeral scope loop of.parent of.site rest in
      let less = made-rises image net ranked (contexts-earlier image entry net.contexts is.contexts) context of address there positive in
      omega (arith, before, less)

  inner-numeral : (scope inner : ℕ) (loop : LoopHere net scope) (context address : ℕ) → HoldsUnit image net scope context address →
      IsLoopAt net inner context address → (scope ≡ inner → ⊥) →
      numeral-of image net ranked loop.context loop.header < numeral-of image net ranked context address
  inner-numeral scope inner loop _ _ (body context header address at held) own differ =
      let same = loop-header net scope loop.context loop.header context header loop.at at in
      let equal : numeral-of image net ranked loop.context loop.header ≡ numeral-of image net ranked context header =
      ap (λ (c : ℕ). numeral-of image net ranked c loop.header) same.0 ∙ ap (numeral-of image net ranked context) same.1 in
      let less = header-less image net ranked context held.of held.there header address held.held
      (λ e. differ (loop-once image entry net is scope inner context address (subst (IsLoopAt net scope context) e at) own)) in
      omega (arith, equal, less)
  inner-numeral scope inner loop _ _ (made context address of there positive rest) own differ =
      let before = held-numeral scope loop of.parent of.site rest in
      let less = made-rises image net ranked (contexts-earlier image entry net.contexts is.contexts) context of address there positive in
      omega (arith, before, less)

  -- What is round an instance, by the loop that it is an instance of.
  outer-at : (inner context header : ℕ) (own : IsLoopAt net inner context header) →
      IsOuterOf image net inner context header own.inst.outer
  outer-at inner context header own =
      let one = is.loops.each inner own.inst own.there in
      let same = loop-header net inner one.context one.header context header (loop-of image entry net is inner own.inst own.there) own in
      subst (λ (h : ℕ). IsOuterOf image net inner context h own.inst.outer) same.1
      (subst (λ (c : ℕ). IsOuterOf image net inner c one.header own.inst.outer) same.0 one.outer)

  -- Outward from an instance whose header a scope holds the scope is met.
  unit-within : (outer n inner context header : ℕ) → numeral-of image net ranked context header < n → IsLoopAt net inner context header →
      HoldsUnit image net outer context header → IsWithin net.loops outer inner
  unit-within outer zero inner context header low own held = absurd (omega (arith, low))
  unit-within outer (suc n) inner context header low own held =
      by_case (same_or_other outer inner)
      (λ k h less loop more. unit-within outer n own.inst.outer k h less loop more) where
        by_outer : IsOuterOf image net inner context header own.inst.outer → (outer ≡ inner → ⊥) →
            ((k h : ℕ) → numeral-of image net ranked k h < n → IsLoopAt net own.inst.outer k h → HoldsUnit image net outer k h →
            IsWithin net.loops outer own.inst.outer) → IsWithin net.loops outer inner
        by_outer (inl (zero_outer, none)) differ onward = absurd (none outer differ held)
        by_outer (inr next) differ onward =
            let round = next.inside outer differ held in
            let less = inner-numeral own.inst.outer inner (record { context = round.context; header = round.header; at = round.at })
            context header next.held own next.other in
            out inner own.inst own.there (onward round.context round.header (omega (arith, low, less)) round.at round.held)

        by_case : ((outer ≡ inner) ⊎ (outer ≡ inner → ⊥)) →
            ((k h : ℕ) → numeral-of image net ranked k h < n → IsLoopAt net own.inst.outer k h → HoldsUnit image net outer k h →
            IsWithin net.loops outer own.inst.outer) → IsWithin net.loops outer inner
        by_case (inl equal) onward = subst (IsWithin net.loops outer) equal here
        by_case (inr differ) onward = by_outer (outer-at inner context header own) differ onward

  -- The place of a unit that an instance holds is held.
  pub unit-holds : (scope number context address : ℕ) → IsPlaceOf net number context address → HoldsUnit image net scope context address →
      Holds net scope number
  unit-holds scope number context address placed held = by_scope (scope-at image entry net is number context address placed) where
    by_scope : IsScopeOf image net context address placed.place.scope → Holds net scope number
    by_scope (inl (zero_scope, none)) = absurd (none scope held)
    by_scope (inr innermost) =
        let round = innermost.inner scope held in record {
          place = placed.place;
          there = placed.there;
          within = unit-within scope (suc (numeral-of image net ranked round.context round.header)) placed.place.scope
              round.context round.header (omega arith) round.at round.held;
        }

  -- Outward the numbers of the headers fall.
  abbrev header-depth : Option Place → ℕ
  header-depth None = 0
  header-depth (Some place) = suc (numeral-of image net ranked place.context place.address)

  abbrev loop-depth : Option LoopInst → ℕ
  loop-depth None = 0
  loop-depth (Some inst) = header-depth (item_at inst.header net.places)

  depth-at : (scope context header : ℕ) → IsLoopAt net scope context header →
      loop-depth (item_at scope net.loops) ≡ suc (numeral-of image net ranked context header)
  depth-at scope context header at =
      ap loop-depth at.there ∙ ap header-depth at.at.there
      ∙ ap (λ (c : ℕ). suc (numeral-of image net ranked c at.at.place.address)) at.at.within
      ∙ ap (λ (a : ℕ). suc (numeral-of image net ranked context a)) at.at.same

  outer-falls : (scope context header : ℕ) (own : IsLoopAt net scope context header) →
      IsOuterOf image net scope context header own.inst.outer →
      loop-depth (item_at own.inst.outer net.loops) < loop-depth (item_at scope net.loops)
  outer-falls scope context header own (inl (zero_outer, none)) =
      let depth = depth-at scope context header own in
      let run : loop-depth (item_at own.inst.outer net.loops) ≡ 0 = ap (λ (s : ℕ). loop-depth (item_at s net.loops)) zero_outer in
      omega (arith, depth, run)
  outer-falls scope context header own (inr next) =
      let loop = holds-loop image net own.inst.outer context header next.held in
      let depth = depth-at scope context header own in
      let around = depth-at own.inst.outer loop.context loop.header loop.at in
      let less = inner-numeral own.inst.outer scope loop context header next.held own next.other in
      omega (arith, depth, around, less)

  pub chains-end : ChainsEnd net.loops
  chains-end = record {
    depth = λ scope. loop-depth (item_at scope net.loops);
    falls = λ scope inst there.
        let one = is.loops.each scope inst there in
        outer-falls scope one.context one.header (record { inst = inst; there = there; at = one.at }) one.outer;
  }
