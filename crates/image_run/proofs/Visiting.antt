-- The places that a run visits: there is one for each stand, and they keep the bounds of the loops.
use Rattle.std.proofs.Common.{◌≡◌, ℕ, zero, suc, ◌<◌, inl, inr, List, [], ◌∷◌, ◌++◌, drop, Some, refl, ap, sym, subst, ◌∙◌, append-nil, arith}
use Rattle.std.specs.Prelude.{slice_get}
use Rattle.std.proofs.lemmas.Option.{none-some}
use Rattle.elf_mips.specs.declared.image.Image.{Image}
use Rattle.flow_net.specs.Numbers.{item_at}
use Rattle.flow_net.specs.Visits.{KeepsBound, KeepsBounds}
use Rattle.flow_net.specs.declared.net.Context.{Context}
use Rattle.flow_net.specs.declared.net.Net.{Net}
use Rattle.mips_decode.specs.Transfer.{Call}
use Rattle.mips_decode.specs.Units.{RunUnit, Stand, visits}
use Rattle.net_model.specs.Contexts.{AreContexts, IsContextBefore, IsContextOf, made_by}
use Rattle.net_model.specs.Net.{IsNet}
use Rattle.net_model.specs.Places.{IsPlaceOf}
use Rattle.net_model.specs.Runs.{AreVisited, IsPlaceFor}
use Rattle.call_contexts.proofs.NetItems.{order-once, place-once}
use Rattle.call_contexts.proofs.NetOnce.{net-once}
use Rattle.image_run.specs.Verdicts.{KeepLoops}
use Rattle.image_run.proofs.Turning.{keeps-front}

-- ---- The open calls have one context.
calls-apart : (a b : Context) → a ≡ b → IsContextBefore a b → ⊥
calls-apart a b same (inl less) = let e = ap (λ (c : Context). c.parent) same in omega (arith, less, e)
calls-apart a b same (inr (parent, inl less)) = let e = ap (λ (c : Context). c.site) same in omega (arith, less, e)
calls-apart a b same (inr (parent, inr (site, less))) = let e = ap (λ (c : Context). c.target) same in omega (arith, less, e)

-- An item of a list behind its first one, by its number in the rest.
behind-first : {T : Type 0} (items : List T) (n : ℕ) (item : T) → 0 < n → slice_get items n ≡ Some item →
    item_at n (drop 1 items) ≡ Some item
behind-first [] n item positive there = absurd (none-some item there)
behind-first (first ∷ more) zero item positive there = absurd (omega (arith, positive))
behind-first (first ∷ more) (suc n) item positive there = there

made-once : (image : Image) (entry : ℕ) (contexts : List Context) → AreContexts image entry contexts → (n m : ℕ) (made : Context) →
    0 < n → 0 < m → slice_get contexts n ≡ Some made → slice_get contexts m ≡ Some made → n ≡ m
made-once image entry contexts are n m made first second one other =
    order-once IsContextBefore (drop 1 contexts) are.order n m made made (behind-first contexts n made first one)
    (behind-first contexts m made second other) (calls-apart made made refl) (calls-apart made made refl)

pub context-one : (image : Image) (entry : ℕ) (contexts : List Context) → AreContexts image entry contexts → (calls : List Call) (n m : ℕ) →
    IsContextOf contexts calls n → IsContextOf contexts calls m → n ≡ m
context-one image entry contexts are [] n m one other = one ∙ sym other
context-one image entry contexts are (call ∷ calls) n m one other =
    let parents = context-one image entry contexts are calls one.1.0 other.1.0 one.1.2 other.1.2 in
    made-once image entry contexts are n m (made_by one.1.0 call.site call.target) one.0 other.0 one.1.1
    (subst (λ (p : ℕ). slice_get contexts m ≡ Some (made_by p call.site call.target)) (sym parents) other.1.1)

-- A stand has one place.
pub stand-one : (image : Image) (entry : ℕ) (net : Net) → IsNet image entry net → (stand : Stand) (n m : ℕ) →
    IsPlaceFor net stand n → IsPlaceFor net stand m → n ≡ m
stand-one image entry net is stand n m one other =
    let same = context-one image entry net.contexts is.contexts stand.calls other.context one.context other.by one.by in
    place-once image entry net is n m one.context stand.address one.at
    (subst (λ (c : ℕ). IsPlaceOf net m c stand.address) same other.at)

-- ---- The places of visits.
pub visited-more : (net : Net) (stands : List Stand) (places : List ℕ) (stand : Stand) (place : ℕ) → AreVisited net stands places →
    IsPlaceFor net stand place → AreVisited net (stands ++ stand ∷ []) (places ++ place ∷ [])
visited-more net [] [] stand place are here = (here, tt)
visited-more net [] (p ∷ places) stand place are here = absurd are
visited-more net (s ∷ stands) [] stand place are here = absurd are
visited-more net (s ∷ stands) (p ∷ places) stand place are here = (are.0, visited-more net stands places stand place are.1 here)

pub visits-append : (front rest : List RunUnit) → visits (front ++ rest) ≡ visits front ++ visits rest
visits-append [] rest = refl
visits-append (unit ∷ front) rest = ap (λ (stands : List Stand). unit.at ∷ stands) (visits-append front rest)

-- Places of the first visits are the first of the places.
visited-front : (image : Image) (entry : ℕ) (net : Net) → IsNet image entry net → (front rest : List Stand) (places first : List ℕ) →
    AreVisited net (front ++ rest) places → AreVisited net front first → (more : List ℕ) × (places ≡ first ++ more)
visited-front image entry net is [] rest places [] are some = (places, refl)
visited-front image entry net is [] rest places (p ∷ first) are some = absurd some
visited-front image entry net is (s ∷ front) rest [] first are some = absurd are
visited-front image entry net is (s ∷ front) rest (q ∷ places) [] are some = absurd some
visited-front image entry net is (s ∷ front) rest (q ∷ places) (p ∷ first) are some =
    let same = stand-one image entry net is s q p are.0 some.0 in
    let (more, later) = visited-front image entry net is front rest places first are.1 some.1 in
    (more, ap (λ (n : ℕ). n ∷ places) same ∙ ap (λ (ps : List ℕ). p ∷ ps) later)

-- Visits whose places keep the bounds keep the loops.
pub loops-kept : (image : Image) (entry : ℕ) (net : Net) → IsNet image entry net → (units : List RunUnit) (places : List ℕ) →
    AreVisited net (visits units) places → KeepsBounds net places → KeepLoops image entry units
loops-kept image entry net is units places are keeps other also front rest parts first some =
    let one : net ≡ other = net-once image entry net other is also in
    subst (λ (n : Net). KeepsBounds n first) one
    (let mine : AreVisited net (visits front) first = subst (λ (n : Net). AreVisited n (visits front) first) (sym one) some in
    let split : visits units ≡ visits front ++ visits rest = ap visits parts ∙ visits-append front rest in
    let (more, same) = visited-front image entry net is (visits front) (visits rest) places first
    (subst (λ (stands : List Stand). AreVisited net stands places) split are) mine in
    λ scope inst there. keeps-front net scope inst first more 0 0
    (subst (KeepsBound net scope inst 0 0) same (keeps scope inst there)))

-- Visits of places that break a bound break it.
pub loops-broken : (image : Image) (entry : ℕ) (net : Net) → IsNet image entry net → (units : List RunUnit) (places : List ℕ) →
    AreVisited net (visits units) places → (KeepsBounds net places → ⊥) → KeepLoops image entry units → ⊥
loops-broken image entry net is units places are breaks keeps =
    breaks (keeps net is units [] (sym (append-nil units)) places are)
