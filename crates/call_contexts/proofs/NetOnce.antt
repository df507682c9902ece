-- A program has one net.
use Rattle.std.proofs.Common.{◌≡◌, ℕ, zero, suc, ◌<◌, inl, inr, ◌+◌, List, [], ◌∷◌, drop, map, slice_get, Contains, Some, refl, sym, ap, subst, ◌∙◌, arith}
use Rattle.std.proofs.lemmas.Option.{none-some, same_Some}
use Rattle.elf_mips.specs.declared.image.Image.{Image}
use Rattle.flow_net.specs.Numbers.{item_at}
use Rattle.flow_net.specs.declared.net.Context.{Context}
use Rattle.flow_net.specs.declared.net.LoopInst.{LoopInst}
use Rattle.flow_net.specs.declared.net.Net.{Net}
use Rattle.flow_net.specs.declared.net.NetArc.{NetArc}
use Rattle.flow_net.specs.declared.net.Place.{Place}
use Rattle.net_model.specs.declared.unit.CodeUnit.{CodeUnit}
use Rattle.net_model.specs.Accesses.{accesses_from}
use Rattle.net_model.specs.Contexts.{Reaches, made_by}
use Rattle.net_model.specs.Instances.{HoldsUnit, IsInBodyOf, IsInside, IsLoopAt, IsOuterOf, IsScopeOf}
use Rattle.net_model.specs.Instances.{body as body_unit, made as made_unit}
use Rattle.net_model.specs.Loops.{IsLoopBound}
use Rattle.net_model.specs.Net.{IsNet, LeadsOn, LeadsTo, calls, comes_back, ends, goes}
use Rattle.net_model.specs.Places.{IsArcBefore, IsPlaceBefore, IsPlaceOf}
use Rattle.loop_nest.proofs.Ordered.{nothing-in, ordered-same}
use Rattle.call_contexts.proofs.ContextsOnce.{contexts-once}
use Rattle.call_contexts.proofs.Items.{item-positive}
use Rattle.call_contexts.proofs.Keyed.{contains-item, item-contained, key-at, key-item, keys-ordered, same-numbers}
use Rattle.call_contexts.proofs.NetItems.{context-at, loop-header, loop-of, own-place, place-once}
use Rattle.call_contexts.proofs.ScopesOnce.{bound-once, outer-once, scope-once}

-- Two nets of one program.
pub record AreNetsOf (image : Image) (entry : ℕ) (net other : Net) : Type 0 where
  pub is : IsNet image entry net
  pub also : IsNet image entry other

nets-turned : (image : Image) (entry : ℕ) (net other : Net) → AreNetsOf image entry net other → AreNetsOf image entry other net
nets-turned image entry net other both = record { is = both.also; also = both.is }

contexts-one : (image : Image) (entry : ℕ) (net other : Net) → AreNetsOf image entry net other → net.contexts ≡ other.contexts
contexts-one image entry net other both = contexts-once image entry net.contexts other.contexts both.is.contexts both.also.contexts

-- A context of one net is that of the other.
context-there : (image : Image) (entry : ℕ) (net other : Net) → AreNetsOf image entry net other → (n : ℕ) (c : Context) →
    slice_get net.contexts n ≡ Some c → slice_get other.contexts n ≡ Some c
context-there image entry net other both n c there =
    subst (λ (contexts : List Context). slice_get contexts n ≡ Some c) (contexts-one image entry net other both) there

-- The places without their scopes.
abbrev bare : Place → Place
bare place = record { context = place.context; address = place.address; scope = 0 }

place-strict : (p q : Place) → IsPlaceBefore p q → IsPlaceBefore q p → ⊥
place-strict p q (inl less) (inl more) = omega (arith, less, more)
place-strict p q (inl less) (inr (same, after)) = omega (arith, less, same)
place-strict p q (inr (same, before)) (inl less) = omega (arith, less, same)
place-strict p q (inr (same, less)) (inr (also, more)) = omega (arith, less, more)

bare-there : (image : Image) (entry : ℕ) (net other : Net) → AreNetsOf image entry net other → (p : Place) →
    Contains (map bare net.places) p → Contains (map bare other.places) p
bare-there image entry net other both p there =
    let (number, at) = item-contained (map bare net.places) p there in
    let (place, here, same) = key-at bare net.places number p at in
    let reached : Reaches image net.contexts place.context place.address = both.is.places.reached number place here in
    let to = both.also.places.whole place.context place.address
    (subst (λ (contexts : List Context). Reaches image contexts place.context place.address) (contexts-one image entry net other both) reached) in
    let equal : bare to.1.place ≡ bare place = rw (to.1.within, to.1.same) refl in
    contains-item (map bare other.places) to.0 p
    (key-item bare other.places to.0 to.1.place to.1.there ∙ ap Some (equal ∙ same))

bare-same : (image : Image) (entry : ℕ) (net other : Net) → AreNetsOf image entry net other → map bare net.places ≡ map bare other.places
bare-same image entry net other both =
    ordered-same IsPlaceBefore place-strict (map bare net.places) (map bare other.places)
    (keys-ordered IsPlaceBefore bare net.places both.is.places.rising)
    (keys-ordered IsPlaceBefore bare other.places both.also.places.rising)
    (bare-there image entry net other both) (bare-there image entry other net (nets-turned image entry net other both))

-- A place of one net is that of the other.
place-there : (image : Image) (entry : ℕ) (net other : Net) → AreNetsOf image entry net other → (n context address : ℕ) →
    IsPlaceOf net n context address → IsPlaceOf other n context address
place-there image entry net other both n context address at =
    let (place, here, same) = key-at bare other.places n (bare at.place)
    (sym (ap (item_at n) (bare-same image entry net other both)) ∙ key-item bare net.places n at.place at.there) in
    record {
      place = place;
      there = here;
      within = ap (λ (p : Place). p.context) same ∙ at.within;
      same = ap (λ (p : Place). p.address) same ∙ at.same;
    }

-- The same headers have loop instances.
abbrev headers-of : Net → List ℕ
headers-of net = map (λ (inst : LoopInst). inst.header) net.loops

less-strict : (a b : ℕ) → a < b → b < a → ⊥
less-strict a b one other = omega (arith, one, other)

header-listed : (net : Net) (scope context header : ℕ) (at : IsLoopAt net scope context header) → (n h : ℕ) →
    at.inst.header ≡ n → n ≡ h → Contains (headers-of net) h
header-listed net scope context header at n h same also =
    contains-item (headers-of net) scope h
    (key-item (λ (l : LoopInst). l.header) net.loops scope at.inst at.there ∙ ap Some (same ∙ also))

header-there : (image : Image) (entry : ℕ) (net other : Net) → AreNetsOf image entry net other → (h : ℕ) →
    Contains (headers-of net) h → Contains (headers-of other) h
header-there image entry net other both h there =
    let (number, at) = item-contained (headers-of net) h there in
    let (inst, here, same) = key-at (λ (l : LoopInst). l.header) net.loops number h at in
    let one = both.is.loops.each number inst here in
    let scope = both.also.loops.whole one.context one.header one.is_loop.of
    (context-there image entry net other both one.context one.is_loop.of one.is_loop.there) one.is_loop.headed in
    let equal : scope.1.inst.header ≡ inst.header =
    place-once image entry other both.also scope.1.inst.header inst.header one.context one.header scope.1.at
    (place-there image entry net other both inst.header one.context one.header one.at) in
    header-listed other scope.0 one.context one.header scope.1 inst.header h equal same

headers-same : (image : Image) (entry : ℕ) (net other : Net) → AreNetsOf image entry net other → headers-of net ≡ headers-of other
headers-same image entry net other both =
    ordered-same (λ (a b : ℕ). a < b) less-strict (headers-of net) (headers-of other)
    (keys-ordered (λ (a b : ℕ). a < b) (λ (l : LoopInst). l.header) net.loops both.is.loops.rising)
    (keys-ordered (λ (a b : ℕ). a < b) (λ (l : LoopInst). l.header) other.loops both.also.loops.rising)
    (header-there image entry net other both) (header-there image entry other net (nets-turned image entry net other both))

-- A loop instance of one net is that of the other, and holds the same.
loop-there : (image : Image) (entry : ℕ) (net other : Net) → AreNetsOf image entry net other → (scope context header : ℕ) →
    IsLoopAt net scope context header → IsLoopAt other scope context header
loop-there image entry net other both scope context header at =
    let (inst, here, same) = key-at (λ (l : LoopInst). l.header) other.loops scope at.inst.header
    (sym (ap (item_at scope) (headers-same image entry net other both))
    ∙ key-item (λ (l : LoopInst). l.header) net.loops scope at.inst at.there) in
    record {
      inst = inst;
      there = here;
      at = subst (λ (n : ℕ). IsPlaceOf other n context header) (sym same)
          (place-there image entry net other both at.inst.header context header at.at);
    }

body-there : (image : Image) (entry : ℕ) (net other : Net) → AreNetsOf image entry net other → (context header address : ℕ) →
    IsInBodyOf image net context header address → IsInBodyOf image other context header address
body-there image entry net other both context header address is = record {
  of = is.of;
  there = context-there image entry net other both context is.of is.there;
  held = is.held;
}

holds-there : (image : Image) (entry : ℕ) (net other : Net) → AreNetsOf image entry net other → (scope context address : ℕ) →
    HoldsUnit image net scope context address → HoldsUnit image other scope context address
holds-there image entry net other both scope _ _ (body_unit context header address at is) =
    body_unit context header address (loop-there image entry net other both scope context header at)
    (body-there image entry net other both context header address is)
holds-there image entry net other both scope _ _ (made_unit context address of there further held) =
    made_unit context address of (context-there image entry net other both context of there) further
    (holds-there image entry net other both scope of.parent of.site held)

inside-there : (image : Image) (entry : ℕ) (net other : Net) → AreNetsOf image entry net other → (scope outer : ℕ) →
    IsInside image net scope outer → IsInside image other scope outer
inside-there image entry net other both scope outer is = record {
  context = is.context;
  header = is.header;
  at = loop-there image entry net other both scope is.context is.header is.at;
  held = holds-there image entry net other both outer is.context is.header is.held;
}

scope-there : (image : Image) (entry : ℕ) (net other : Net) → AreNetsOf image entry net other → (context address scope : ℕ) →
    IsScopeOf image net context address scope → IsScopeOf image other context address scope
scope-there image entry net other both context address scope (inl (run, none)) =
    inl (
      run,
      λ another held.
          none another (holds-there image entry other net (nets-turned image entry net other both) another context address held),
    )
scope-there image entry net other both context address scope (inr is) = inr (record {
  held = holds-there image entry net other both scope context address is.held;
  inner = λ another held. inside-there image entry net other both scope another
      (is.inner another (holds-there image entry other net (nets-turned image entry net other both) another context address held));
})

outer-there : (image : Image) (entry : ℕ) (net other : Net) → AreNetsOf image entry net other → (inner context header scope : ℕ) →
    IsOuterOf image net inner context header scope → IsOuterOf image other inner context header scope
outer-there image entry net other both inner context header scope (inl (run, none)) =
    inl (
      run,
      λ another differ held.
          none another differ (holds-there image entry other net (nets-turned image entry net other both) another context header held),
    )
outer-there image entry net other both inner context header scope (inr is) = inr (record {
  held = holds-there image entry net other both scope context header is.held;
  other = is.other;
  inside = λ another differ held. inside-there image entry net other both scope another
      (is.inside another differ (holds-there image entry other net (nets-turned image entry net other both) another context header held));
})

-- Places and loop instances of the same parts.
place-parts : (p q : Place) → p.context ≡ q.context → p.address ≡ q.address → p.scope ≡ q.scope → p ≡ q
place-parts p q context address scope = rw (context, address, scope) refl

instance-parts : (l m : LoopInst) → l.header ≡ m.header → l.bound ≡ m.bound → l.outer ≡ m.outer → l ≡ m
instance-parts l m header bound outer = rw (header, bound, outer) refl

-- The loop instance of a number has one bound and one scope round it.
bound-there : (image : Image) (entry : ℕ) (net other : Net) (both : AreNetsOf image entry net other) → (scope : ℕ) (inst : LoopInst)
    (there : item_at scope net.loops ≡ Some inst) →
    (at : IsLoopAt other scope (both.is.loops.each scope inst there).context (both.is.loops.each scope inst there).header) →
    at.inst.bound ≡ inst.bound
bound-there image entry net other both scope inst there at =
    let one = both.is.loops.each scope inst there in
    let two = both.also.loops.each scope at.inst at.there in
    let (context, header) = loop-header other scope two.context two.header one.context one.header
    (loop-of image entry other both.also scope at.inst at.there) at in
    let of : two.is_loop.of ≡ one.is_loop.of =
    context-at other.contexts one.context two.is_loop.of one.is_loop.of
    (subst (λ (c : ℕ). slice_get other.contexts c ≡ Some two.is_loop.of) context two.is_loop.there)
    (context-there image entry net other both one.context one.is_loop.of one.is_loop.there) in
    bound-once image one.is_loop.of.target one.header at.inst.bound inst.bound
    (subst (λ (h : ℕ). IsLoopBound image one.is_loop.of.target h at.inst.bound) header
    (subst (λ (c : Context). IsLoopBound image c.target two.header at.inst.bound) of two.is_loop.bounded))
    one.is_loop.bounded

round-there : (image : Image) (entry : ℕ) (net other : Net) (both : AreNetsOf image entry net other) → (scope : ℕ) (inst : LoopInst)
    (there : item_at scope net.loops ≡ Some inst) →
    (at : IsLoopAt other scope (both.is.loops.each scope inst there).context (both.is.loops.each scope inst there).header) →
    at.inst.outer ≡ inst.outer
round-there image entry net other both scope inst there at =
    let one = both.is.loops.each scope inst there in
    let two = both.also.loops.each scope at.inst at.there in
    let (context, header) = loop-header other scope two.context two.header one.context one.header
    (loop-of image entry other both.also scope at.inst at.there) at in
    outer-once image entry other both.also scope one.context one.header at.inst.outer inst.outer
    (subst (λ (h : ℕ). IsOuterOf image other scope one.context h at.inst.outer) header
    (subst (λ (c : ℕ). IsOuterOf image other scope c two.header at.inst.outer) context two.outer))
    (outer-there image entry net other both scope one.context one.header inst.outer one.outer)

-- The place of a number is one, and so is the loop instance of a number.
place-one : (image : Image) (entry : ℕ) (net other : Net) → AreNetsOf image entry net other → (n : ℕ) (place : Place) →
    item_at n net.places ≡ Some place → item_at n other.places ≡ Some place
place-one image entry net other both n place there =
    let at : IsPlaceOf other n place.context place.address =
    place-there image entry net other both n place.context place.address (own-place net n place there) in
    let scope : IsScopeOf image other place.context place.address at.place.scope =
    subst (λ (a : ℕ). IsScopeOf image other place.context a at.place.scope) at.same
    (subst (λ (c : ℕ). IsScopeOf image other c at.place.address at.place.scope) at.within
    (both.also.loops.scopes n at.place at.there)) in
    let equal : at.place.scope ≡ place.scope =
    scope-once image entry other both.also place.context place.address at.place.scope place.scope scope
    (scope-there image entry net other both place.context place.address place.scope (both.is.loops.scopes n place there)) in
    at.there ∙ ap Some (place-parts at.place place at.within at.same equal)

instance-one : (image : Image) (entry : ℕ) (net other : Net) → AreNetsOf image entry net other → (scope : ℕ) (inst : LoopInst) →
    item_at scope net.loops ≡ Some inst → item_at scope other.loops ≡ Some inst
instance-one image entry net other both scope inst there =
    let one = both.is.loops.each scope inst there in
    let at : IsLoopAt other scope one.context one.header =
    loop-there image entry net other both scope one.context one.header (loop-of image entry net both.is scope inst there) in
    let placed : IsPlaceOf other inst.header one.context one.header =
    place-there image entry net other both inst.header one.context one.header one.at in
    at.there ∙ ap Some (instance-parts at.inst inst
    (place-once image entry other both.also at.inst.header inst.header one.context one.header at.at placed)
    (bound-there image entry net other both scope inst there at) (round-there image entry net other both scope inst there at))

places-one : (image : Image) (entry : ℕ) (net other : Net) → AreNetsOf image entry net other → net.places ≡ other.places
places-one image entry net other both =
    same-numbers net.places other.places (place-one image entry net other both)
    (place-one image entry other net (nets-turned image entry net other both))

loops-one : (image : Image) (entry : ℕ) (net other : Net) → AreNetsOf image entry net other → net.loops ≡ other.loops
loops-one image entry net other both =
    same-numbers net.loops other.loops (instance-one image entry net other both)
    (instance-one image entry other net (nets-turned image entry net other both))

-- The arcs.
arc-strict : (a b : NetArc) → IsArcBefore a b → IsArcBefore b a → ⊥
arc-strict a b (inl less) (inl more) = omega (arith, less, more)
arc-strict a b (inl less) (inr (same, after)) = omega (arith, less, same)
arc-strict a b (inr (same, before)) (inl less) = omega (arith, less, same)
arc-strict a b (inr (same, (positive, inl last))) (inr (also, (further, after))) = omega (arith, last, further)
arc-strict a b (inr (same, (positive, inr less))) (inr (also, (further, inl last))) = omega (arith, positive, last)
arc-strict a b (inr (same, (positive, inr less))) (inr (also, (further, inr more))) = omega (arith, less, more)

leads_to-there : (image : Image) (entry : ℕ) (net other : Net) → AreNetsOf image entry net other → (unit : CodeUnit) (context address to : ℕ) →
    LeadsTo image net unit context address to → LeadsTo image other unit context address to
leads_to-there image entry net other both unit context address _ (goes to later way at) =
    goes to later way (place-there image entry net other both to context later at)
leads_to-there image entry net other both unit context address _ (calls to made callee called further there at) =
    calls to made callee called further (context-there image entry net other both made (made_by context address callee) there)
    (place-there image entry net other both to made callee at)
leads_to-there image entry net other both unit context address _ (comes_back to of leaves further there at) =
    comes_back to of leaves further (context-there image entry net other both context of there)
    (place-there image entry net other both to of.parent (of.site + 8) at)
leads_to-there image entry net other both unit context address _ (ends leaves run) = ends leaves run

leads-there : (image : Image) (entry : ℕ) (net other : Net) → AreNetsOf image entry net other → (from to : ℕ) →
    LeadsOn image net from to → LeadsOn image other from to
leads-there image entry net other both from to leads = record {
  place = leads.place;
  there = place-one image entry net other both from leads.place leads.there;
  unit = leads.unit;
  stands = leads.stands;
  leads = leads_to-there image entry net other both leads.unit leads.place.context leads.place.address to leads.leads;
}

-- An item behind the first one, by its number in the whole list.
behind-first : {T : Type 0} (items : List T) (item : T) → Contains (drop 1 items) item →
    (number : ℕ) × (1 < number) × (item_at number items ≡ Some item)
behind-first [] item there = absurd (nothing-in item there)
behind-first (first ∷ more) item there =
    let (number, at) = item-contained more item there in
    (suc number, (let positive = item-positive more number item at in omega (arith, positive)), further first more number item at)
  where
    further : {T : Type 0} (first : T) (more : List T) (number : ℕ) (item : T) → item_at number more ≡ Some item →
        item_at (suc number) (first ∷ more) ≡ Some item
    further first more zero item at = absurd (none-some item at)
    further first more (suc n) item at = at

stands-behind : {T : Type 0} (items : List T) (number : ℕ) (item : T) → 1 < number → item_at number items ≡ Some item →
    Contains (drop 1 items) item
stands-behind [] zero item later there = absurd (none-some item there)
stands-behind [] (suc n) item later there = absurd (none-some item there)
stands-behind (first ∷ more) zero item later there = absurd (none-some item there)
stands-behind (first ∷ more) (suc zero) item later there = absurd (omega (arith, later))
stands-behind (first ∷ more) (suc (suc n)) item later there = contains-item more (suc n) item there

arc-there : (image : Image) (entry : ℕ) (net other : Net) → AreNetsOf image entry net other → (arc : NetArc) →
    Contains (drop 1 net.arcs) arc → Contains (drop 1 other.arcs) arc
arc-there image entry net other both arc there =
    let (number, later, at) = behind-first net.arcs arc there in
    let (n, further, found) = both.also.arcs.arcs arc.from arc.to
    (leads-there image entry net other both arc.from arc.to (both.is.arcs.ways number arc at later)) in
    stands-behind other.arcs n arc further found

later-arcs : (image : Image) (entry : ℕ) (net other : Net) → AreNetsOf image entry net other → drop 1 net.arcs ≡ drop 1 other.arcs
later-arcs image entry net other both =
    ordered-same IsArcBefore arc-strict (drop 1 net.arcs) (drop 1 other.arcs) both.is.arcs.order both.also.arcs.order
    (arc-there image entry net other both) (arc-there image entry other net (nets-turned image entry net other both))

arc-parts : (a b : NetArc) → a.from ≡ b.from → a.to ≡ b.to → a ≡ b
arc-parts a b from to = rw (from, to) refl

first-arc : (image : Image) (entry : ℕ) (net other : Net) → AreNetsOf image entry net other → item_at 1 net.arcs ≡ item_at 1 other.arcs
first-arc image entry net other both =
    let (arc, there, out, at) = both.is.arcs.first in
    let (another, here, apart, to) = both.also.arcs.first in
    there ∙ ap Some (arc-parts arc another (out ∙ sym apart)
    (place-once image entry other both.also arc.to another.to 0 entry (place-there image entry net other both arc.to 0 entry at) to)) ∙ sym here

same-parts : {T : Type 0} (xs ys : List T) → item_at 1 xs ≡ item_at 1 ys → drop 1 xs ≡ drop 1 ys → xs ≡ ys
same-parts [] [] first later = refl
same-parts [] (y ∷ ys) first later = absurd (none-some y first)
same-parts (x ∷ xs) [] first later = absurd (none-some x (sym first))
same-parts (x ∷ xs) (y ∷ ys) first later = ap (λ w. w ∷ xs) (same_Some x y first) ∙ ap (λ ws. y ∷ ws) later

arcs-one : (image : Image) (entry : ℕ) (net other : Net) → AreNetsOf image entry net other → net.arcs ≡ other.arcs
arcs-one image entry net other both =
    same-parts net.arcs other.arcs (first-arc image entry net other both) (later-arcs image entry net other both)

accesses-one : (image : Image) (entry : ℕ) (net other : Net) → AreNetsOf image entry net other → net.accesses ≡ other.accesses
accesses-one image entry net other both =
    both.is.accesses ∙ ap (accesses_from image 1) (places-one image entry net other both) ∙ sym both.also.accesses

net-parts : (net other : Net) → net.contexts ≡ other.contexts → net.places ≡ other.places → net.arcs ≡ other.arcs →
    net.loops ≡ other.loops → net.accesses ≡ other.accesses → net ≡ other
net-parts net other contexts places arcs loops accesses = rw (contexts, places, arcs, loops, accesses) refl

-- A program has one net.
pub net-once : (image : Image) (entry : ℕ) (net other : Net) → IsNet image entry net → IsNet image entry other → net ≡ other
net-once image entry net other is also =
    let both : AreNetsOf image entry net other = record { is = is; also = also } in
    net-parts net other (contexts-one image entry net other both) (places-one image entry net other both)
    (arcs-one image entry net other both) (loops-one image entry net other both) (accesses-one image entry net other both)
