-- What stands at a number of a net: no place, no loop instance and no context stands twice.
use Rattle.std.proofs.Common.{◌≡◌, ℕ, zero, suc, ◌<◌, ◌≤◌, ◌⊎◌, inl, inr, List, [], ◌∷◌, drop, length, slice_get, get_or, All, AllPairs, Some, refl, sym, ap, subst, ◌∙◌, arith}
use Rattle.std.proofs.lemmas.Bool.{cases_lt}
use Rattle.std.proofs.lemmas.Option.{none-some, same_Some, slice_get-get_or}
use Rattle.elf_mips.specs.declared.image.Image.{Image}
use Rattle.flow_net.specs.Numbers.{IsNumberOf, item_at}
use Rattle.flow_net.specs.declared.net.Context.{Context}
use Rattle.flow_net.specs.declared.net.LoopInst.{LoopInst}
use Rattle.flow_net.specs.declared.net.Net.{Net}
use Rattle.flow_net.specs.declared.net.Place.{Place}
use Rattle.net_model.specs.Contexts.{AreContexts, IsContextBefore, Reaches}
use Rattle.net_model.specs.Instances.{IsLoopAt, IsScopeOf}
use Rattle.net_model.specs.Net.{IsNet}
use Rattle.net_model.specs.Places.{IsPlaceBefore, IsPlaceOf}
use Rattle.flow_net.proofs.Numbers.{item_at-same}
use Rattle.call_contexts.proofs.Items.{item-positive, item-within, rising-once}
use Rattle.call_contexts.proofs.Places.{pair_at}

-- All items of a list, by their numbers.
pub all-by : {T : Type 0} (P : T → Type 0) (items : List T) → ((number : ℕ) (item : T) → item_at number items ≡ Some item → P item) → All P items
all-by P items each = λ i d inside. each (suc i) (get_or items i d) (slice_get-get_or items i d inside)

-- Two items of an ordered list of which neither comes before the other have one number.
pub order-once : {T : Type 0} (R : T → T → Type 0) (items : List T) → AllPairs R items → (n m : ℕ) (a b : T) →
    item_at n items ≡ Some a → item_at m items ≡ Some b → (R a b → ⊥) → (R b a → ⊥) → n ≡ m
order-once R items rising zero m a b one other before behind = absurd (none-some a one)
order-once R items rising (suc i) zero a b one other before behind = absurd (none-some b other)
order-once R items rising (suc i) (suc j) a b one other before behind = by_order (cases_lt i j) where
  by_order : ((i < j) ⊎ (j ≤ i)) → suc i ≡ suc j
  by_order (inl less) = absurd (before (pair_at R items rising i j a b less one other))
  by_order (inr most) = by_other (cases_lt j i) where
    by_other : ((j < i) ⊎ (i ≤ j)) → suc i ≡ suc j
    by_other (inl less) = absurd (behind (pair_at R items rising j i b a less other one))
    by_other (inr least) = omega (arith, most, least)

-- A unit in a context has one place.
before-apart : (p q : Place) → p.context ≡ q.context → p.address ≡ q.address → IsPlaceBefore p q → ⊥
before-apart p q context address (inl less) = omega (arith, less, context)
before-apart p q context address (inr (same, less)) = omega (arith, less, address)

pub place-once : (image : Image) (entry : ℕ) (net : Net) → IsNet image entry net → (n m context address : ℕ) →
    IsPlaceOf net n context address → IsPlaceOf net m context address → n ≡ m
place-once image entry net is n m context address one other =
    let within : one.place.context ≡ other.place.context = one.within ∙ sym other.within in
    let same : one.place.address ≡ other.place.address = one.same ∙ sym other.same in
    order-once IsPlaceBefore net.places is.places.rising n m one.place other.place one.there other.there
    (before-apart one.place other.place within same) (before-apart other.place one.place (sym within) (sym same))

-- A place is that of one unit in one context.
pub place-unit : (net : Net) (n context address other at : ℕ) → IsPlaceOf net n context address → IsPlaceOf net n other at →
    (context ≡ other) × (address ≡ at)
place-unit net n context address other at one two =
    let same : one.place ≡ two.place = item_at-same net.places n one.place two.place one.there two.there in
    (sym one.within ∙ ap (λ (p : Place). p.context) same ∙ two.within, sym one.same ∙ ap (λ (p : Place). p.address) same ∙ two.same)

pub no-place : (net : Net) (context address : ℕ) → IsPlaceOf net 0 context address → ⊥
no-place net context address at = none-some at.place at.there

pub place-positive : (net : Net) (n context address : ℕ) → IsPlaceOf net n context address → 0 < n
place-positive net n context address at = item-positive net.places n at.place at.there

pub place-within : (net : Net) (n context address : ℕ) → IsPlaceOf net n context address → n ≤ length net.places
place-within net n context address at = item-within net.places n at.place at.there

pub place-number : (net : Net) (n context address : ℕ) → IsPlaceOf net n context address → IsNumberOf net.places n
place-number net n context address at =
    record { from_one = place-positive net n context address at; within = place-within net n context address at }

-- The place of a number, and what its function reaches.
pub placed-at : (net : Net) (number : ℕ) → IsNumberOf net.places number → (place : Place) × (item_at number net.places ≡ Some place)
placed-at net zero is = absurd (let positive = is.from_one in omega (arith, positive))
placed-at net (suc i) is = some_place net.places i (let within = is.within in omega (arith, within)) where
  some_place : (places : List Place) (i : ℕ) → i < length places → (place : Place) × (item_at (suc i) places ≡ Some place)
  some_place [] i within = absurd (omega (arith, within))
  some_place (p ∷ more) zero within = (p, refl)
  some_place (p ∷ more) (suc i) within = some_place more i (omega (arith, within))

pub own-place : (net : Net) (n : ℕ) (place : Place) → item_at n net.places ≡ Some place → IsPlaceOf net n place.context place.address
own-place net n place there = record { place = place; there = there; within = refl; same = refl }

pub place-reached : (image : Image) (entry : ℕ) (net : Net) → IsNet image entry net → (n context address : ℕ) →
    IsPlaceOf net n context address → Reaches image net.contexts context address
place-reached image entry net is n context address at =
    subst (Reaches image net.contexts context) at.same
    (subst (λ (c : ℕ). Reaches image net.contexts c at.place.address) at.within
    (is.places.reached n at.place at.there))

-- A loop of a context has one instance, and an instance is that of one loop.
pub loop-once : (image : Image) (entry : ℕ) (net : Net) → IsNet image entry net → (s t context header : ℕ) →
    IsLoopAt net s context header → IsLoopAt net t context header → s ≡ t
loop-once image entry net is s t context header one other =
    rising-once (λ (inst : LoopInst). inst.header) net.loops is.loops.rising s t one.inst other.inst one.there other.there
    (place-once image entry net is one.inst.header other.inst.header context header one.at other.at)

pub loop-header : (net : Net) (s context header other at : ℕ) → IsLoopAt net s context header → IsLoopAt net s other at →
    (context ≡ other) × (header ≡ at)
loop-header net s context header other at one two =
    place-unit net one.inst.header context header other at one.at
    (subst (λ (inst : LoopInst). IsPlaceOf net inst.header other at)
    (item_at-same net.loops s two.inst one.inst two.there one.there) two.at)

pub no-loop : (net : Net) (context header : ℕ) → IsLoopAt net 0 context header → ⊥
no-loop net context header at = none-some at.inst at.there

pub loop-within : (net : Net) (s context header : ℕ) → IsLoopAt net s context header → s ≤ length net.loops
loop-within net s context header at = item-within net.loops s at.inst at.there

-- What an instance is an instance of.
pub loop-of : (image : Image) (entry : ℕ) (net : Net) (is : IsNet image entry net) (s : ℕ) (inst : LoopInst)
    (there : item_at s net.loops ≡ Some inst) →
    IsLoopAt net s (is.loops.each s inst there).context (is.loops.each s inst there).header
loop-of image entry net is s inst there = record { inst = inst; there = there; at = (is.loops.each s inst there).at }

-- The scope of a place.
pub scope-at : (image : Image) (entry : ℕ) (net : Net) → IsNet image entry net → (n context address : ℕ) (at : IsPlaceOf net n context address) →
    IsScopeOf image net context address at.place.scope
scope-at image entry net is n context address at =
    subst (λ (a : ℕ). IsScopeOf image net context a at.place.scope) at.same
    (subst (λ (c : ℕ). IsScopeOf image net c at.place.address at.place.scope) at.within
    (is.loops.scopes n at.place at.there))

-- A call in a context makes one context.
context-apart : (c d : Context) → c ≡ d → IsContextBefore c d → ⊥
context-apart c d same before = by_parent before where
  parent : c.parent ≡ d.parent
  parent = ap (λ (x : Context). x.parent) same

  site : c.site ≡ d.site
  site = ap (λ (x : Context). x.site) same

  target : c.target ≡ d.target
  target = ap (λ (x : Context). x.target) same

  by_parent : IsContextBefore c d → ⊥
  by_parent (inl less) = omega (arith, less, parent)
  by_parent (inr (equal, inl less)) = omega (arith, less, site)
  by_parent (inr (equal, inr (even, less))) = omega (arith, less, target)

behind-first : (contexts : List Context) (i : ℕ) → item_at i (drop 1 contexts) ≡ slice_get contexts i ⊎ (i ≡ 0)
behind-first contexts zero = inr refl
behind-first [] (suc i) = inl refl
behind-first (c ∷ more) (suc i) = inl refl

further-at : (contexts : List Context) (i : ℕ) (c : Context) → 0 < i → slice_get contexts i ≡ Some c → item_at i (drop 1 contexts) ≡ Some c
further-at contexts i c positive there = elim (behind-first contexts i) [
  | inl same ↦ same ∙ there
  | inr zero_i ↦ absurd (omega (arith, positive, zero_i))
]

pub context-once : (image : Image) (entry : ℕ) (contexts : List Context) → AreContexts image entry contexts → (i j : ℕ) (c d : Context) →
    slice_get contexts i ≡ Some c → slice_get contexts j ≡ Some d → 0 < i → 0 < j → c ≡ d → i ≡ j
context-once image entry contexts are i j c d one other first second same =
    order-once IsContextBefore (drop 1 contexts) are.order i j c d
    (further-at contexts i c first one) (further-at contexts j d second other)
    (context-apart c d same) (context-apart d c (sym same))

-- A context of a number is one.
pub context-at : (contexts : List Context) (i : ℕ) (c d : Context) → slice_get contexts i ≡ Some c → slice_get contexts i ≡ Some d → c ≡ d
context-at contexts i c d one other = same_Some c d (sym one ∙ other)
