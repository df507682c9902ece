-- Places that are laid one after the other, and what they are in the end.
use Rattle.std.proofs.Common.{◌≡◌, ℕ, zero, suc, ◌+◌, ◌<◌, ◌⊎◌, inl, inr, List, [], ◌∷◌, ◌++◌, length, map, take, get_or, slice_get, Some, refl, sym, ap, subst, ◌∙◌, arith, length-append}
use Rattle.std.proofs.lemmas.List.{map-append, take_more}
use Rattle.std.proofs.lemmas.Option.{none-some, same_Some, slice_get_read}
use Rattle.flow_net.specs.Numbers.{item_at}
use Rattle.flow_net.specs.declared.net.Place.{Place}
use Rattle.unit_graph.specs.declared.graph.Graph.{Graph}
use Rattle.unit_graph.specs.declared.node.Unit.{Unit as Node}
use Rattle.call_contexts.specs.Layout.{HasGraph, HasPlace, IsLaid, IsLaidOut, IsPlaced, IsSpot}
use Rattle.call_contexts.specs.declared.layout.Layout.{Layout}
use Rattle.call_contexts.proofs.SpotNumbers.{base-above, graph-within, some-at, spot-context, spot-inside, spot-once, spot-positive}

-- The places of the numbers below a limit.
pub record ArePlaces (graphs : List Graph) (layout : Layout) (limit : ℕ) (places : List Place) : Type 0 where
  pub count : suc (length places) ≡ limit
  pub each : (number : ℕ) (place : Place) → item_at number places ≡ Some place → IsPlaced graphs layout number place

pub places-none : (graphs : List Graph) (layout : Layout) (places : List Place) → places ≡ [] → ArePlaces graphs layout 1 places
places-none graphs layout places none = record {
  count = omega (arith, ap (λ (ps : List Place). length ps) none);
  each = λ number place there.
      absurd (nothing number place (subst (λ (ps : List Place). item_at number ps ≡ Some place) none there));
} where
  nothing : (number : ℕ) (place : Place) → item_at {T = Place} number [] ≡ Some place → ⊥
  nothing zero place there = none-some place there
  nothing (suc k) place there = none-some place there

-- What stands in a list with one more item.
pub pushed-at : {T : Type 0} (items : List T) (last : T) (k : ℕ) (item : T) → slice_get (items ++ last ∷ []) k ≡ Some item →
    (slice_get items k ≡ Some item) ⊎ ((k ≡ length items) × (last ≡ item))
pushed-at [] last zero item there = inr (refl, same_Some last item there)
pushed-at [] last (suc k) item there = absurd (none-some item there)
pushed-at (x ∷ xs) last zero item there = inl there
pushed-at (x ∷ xs) last (suc k) item there =
    elim (pushed-at xs last k item there) as (λ _. (slice_get xs k ≡ Some item) ⊎ ((suc k ≡ length (x ∷ xs)) × (last ≡ item))) [
      | inl before ↦ inl before
      | inr here ↦ inr (ap suc here.0, here.1)
    ]

pub places-more : (graphs : List Graph) (layout : Layout) (limit : ℕ) (places : List Place) (place : Place) → ArePlaces graphs layout limit places →
    IsPlaced graphs layout limit place → ArePlaces graphs layout (suc limit) (places ++ place ∷ [])
places-more graphs layout limit places place are is = record {
  count = omega (arith, are.count, length-append places (place ∷ []));
  each = λ number other there. at number other there;
} where
  at : (number : ℕ) (other : Place) → item_at number (places ++ place ∷ []) ≡ Some other → IsPlaced graphs layout number other
  at zero other there = absurd (none-some other there)
  at (suc k) other there =
      elim (pushed-at places place k other there) as (λ _. IsPlaced graphs layout (suc k) other) [
        | inl before ↦ are.each (suc k) other before
        | inr here ↦ subst (IsPlaced graphs layout (suc k)) here.1
            (subst (λ (n : ℕ). IsPlaced graphs layout n place) (limit-is k here.0) is)
      ] where
        limit-is : (k : ℕ) → k ≡ length places → limit ≡ suc k
        limit-is k same = omega (arith, same, are.count)

-- The last base is above each number.
pub spot-below : (graphs : List Graph) (layout : Layout) (context position : ℕ) (node : Node) (number last : ℕ) → IsLaidOut graphs layout →
    IsSpot graphs layout context position node number → slice_get layout.bases.items (length layout.contexts.keys) ≡ Some last → number < last
spot-below graphs layout context position node number last laid spot ends =
    let inside = spot-inside graphs layout context position node number spot in
    omega (
      arith,
      inside.below,
      base-above graphs layout context inside.base inside.graph (length layout.contexts.keys) last laid inside.has inside.begins
          (graph-within graphs layout context inside.graph inside.has) ends,
    )

-- All places are those of the layout.
pub places-laid : (graphs : List Graph) (layout : Layout) (last : ℕ) (places : List Place) → IsLaidOut graphs layout →
    slice_get layout.bases.items (length layout.contexts.keys) ≡ Some last → ArePlaces graphs layout last places → IsLaid graphs layout places
places-laid graphs layout last places laid ends are = record {
  each = are.each;
  whole = λ context position number node spot. whole context position number node spot;
} where
  found : (context position number : ℕ) (node : Node) → IsSpot graphs layout context position node number →
      (place : Place) × (item_at number places ≡ Some place)
  found context position zero node spot =
      absurd (let some : 0 < 0 = spot-positive graphs layout context position node 0 laid spot in omega (arith, some))
  found context position (suc k) node spot =
      some-at places k (omega (arith, are.count, spot-below graphs layout context position node (suc k) last laid spot ends))

  whole : (context position number : ℕ) (node : Node) → IsSpot graphs layout context position node number →
      HasPlace places number context node.address
  whole context position number node spot =
      let (place, there) = found context position number node spot in
      let its = are.each number place there in
      record {
        place = place;
        there = there;
        within = spot-context graphs layout place.context its.position context position its.node node number laid its.spot spot;
        same = its.same ∙ ap (λ (n : Node). n.address)
            (spot-once graphs layout place.context its.position context position its.node node number laid its.spot spot);
      }

-- The scopes of the places so far.
pub scopes-more : (places : List Place) (place : Place) (scopes : List ℕ) →
    map (λ (p : Place). p.scope) places ≡ take (length places) scopes → length places < length scopes →
    place.scope ≡ get_or scopes (length places) 0 →
    map (λ (p : Place). p.scope) (places ++ place ∷ []) ≡ take (length (places ++ place ∷ [])) scopes
scopes-more places place scopes before inside here =
    let counted : length (places ++ place ∷ []) ≡ length places + 1 = omega (arith, length-append places (place ∷ [])) in
    map-append (λ (p : Place). p.scope) places (place ∷ [])
    ∙ ap (λ (ss : List ℕ). ss ++ place.scope ∷ []) before
    ∙ ap (λ (s : ℕ). take (length places) scopes ++ s ∷ []) here
    ∙ sym (take_more scopes (length places) 0 inside)
    ∙ ap (λ (n : ℕ). take n scopes) (sym counted)

-- Below the last base there is a scope for each place.
pub scope-there : (graphs : List Graph) (layout : Layout) (context base index : ℕ) (graph : Graph) (places : List Place) (scopes : List ℕ) →
    IsLaidOut graphs layout → HasGraph graphs layout context graph → slice_get layout.bases.items context ≡ Some base →
    slice_get layout.bases.items (length layout.contexts.keys) ≡ Some (suc (length scopes)) →
    ArePlaces graphs layout (base + index) places → index < length graph.units → length places < length scopes
scope-there graphs layout context base index graph places scopes laid has begins ends are inside =
    omega (
      arith,
      are.count,
      base-above graphs layout context base graph (length layout.contexts.keys) (suc (length scopes)) laid has begins
          (graph-within graphs layout context graph has) ends,
    )

-- The unit that is read at a position of a context has its place.
pub unit-spot : (graphs : List Graph) (layout : Layout) (context base index : ℕ) (graph : Graph) (units : List Node) (unit : Node) →
    HasGraph graphs layout context graph → slice_get layout.bases.items context ≡ Some base → units ≡ graph.units →
    index < length units → unit ≡ get_or units index unit → IsSpot graphs layout context index unit (base + index)
unit-spot graphs layout context base index graph units unit has begins same inside read = record {
  graph = graph;
  has = has;
  there = subst (λ (nodes : List Node). slice_get nodes index ≡ Some unit) same
      (slice_get_read units (length units) index unit refl inside read);
  base = base;
  begins = begins;
  counted = refl;
}
