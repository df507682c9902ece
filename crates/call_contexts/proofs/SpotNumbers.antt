-- Numbers of places in a layout: they rise with the contexts, and in one context with the units.
use Rattle.std.proofs.Common.{◌≡◌, ℕ, zero, suc, ◌+◌, ◌<◌, ◌≤◌, ◌⊎◌, inl, inr, List, [], ◌∷◌, length, get_or, slice_get, Some, refl, sym, subst, ◌∙◌, arith}
use Rattle.std.proofs.lemmas.Bool.{cases_lt}
use Rattle.std.proofs.lemmas.Option.{get_or_from_slice_get, same_Some, slice_get_read, slice_get_within}
use Rattle.unit_graph.specs.declared.graph.Graph.{Graph}
use Rattle.unit_graph.specs.declared.node.Unit.{Unit as Node}
use Rattle.call_contexts.specs.Layout.{HasGraph, IsLaidOut, IsSpot}
use Rattle.call_contexts.specs.Sizes.{most_places}
use Rattle.call_contexts.specs.declared.layout.Layout.{Layout}

pub some-at : {T : Type 0} (items : List T) (k : ℕ) → k < length items → (item : T) × (slice_get items k ≡ Some item)
some-at [] k inside = absurd (omega arith)
some-at (x ∷ xs) zero inside = (x, refl)
some-at (x ∷ xs) (suc k) inside = some-at xs k (omega arith)

pub one-at : {T : Type 0} (items : List T) (k : ℕ) (a b : T) → slice_get items k ≡ Some a → slice_get items k ≡ Some b → a ≡ b
one-at items k a b one other = same_Some a b (sym one ∙ other)

-- A context has one graph.
pub graph-once : (graphs : List Graph) (layout : Layout) (context : ℕ) (g h : Graph) → HasGraph graphs layout context g →
    HasGraph graphs layout context h → g ≡ h
graph-once graphs layout context g h one other =
    let place : one.position ≡ other.position = one-at layout.functions.items context one.position other.position one.listed other.listed in
    one-at graphs other.position g h (subst (λ (p : ℕ). slice_get graphs p ≡ Some g) place one.is) other.is

pub graph-within : (graphs : List Graph) (layout : Layout) (context : ℕ) (graph : Graph) → HasGraph graphs layout context graph →
    context < length layout.contexts.keys
graph-within graphs layout context graph has = slice_get_within layout.contexts.keys context has.of has.there

pub base-at : (graphs : List Graph) (layout : Layout) (context : ℕ) → IsLaidOut graphs layout →
    context ≤ length layout.contexts.keys → (base : ℕ) × (slice_get layout.bases.items context ≡ Some base)
base-at graphs layout context laid within = some-at layout.bases.items context (omega (arith, laid.bases))

-- The places of a context come before those of each later one.
base-later : (graphs : List Graph) (layout : Layout) (context base : ℕ) (graph : Graph) (k later : ℕ) (after : ℕ) →
    IsLaidOut graphs layout → HasGraph graphs layout context graph → slice_get layout.bases.items context ≡ Some base →
    suc (k + context) ≡ later → slice_get layout.bases.items later ≡ Some after → base + length graph.units ≤ after
base-later graphs layout context base graph zero later after laid has begins same there =
    let here : suc context ≡ later = omega (arith, same) in
    let next : base + length graph.units ≡ after =
    one-at layout.bases.items later (base + length graph.units) after
    (subst (λ (n : ℕ). slice_get layout.bases.items n ≡ Some (base + length graph.units)) here (laid.next context base graph has begins)) there in
    omega (arith, next)
base-later graphs layout context base graph (suc k) later after laid has begins same there =
    let before : ℕ = suc (k + context) in
    let last : suc before ≡ later = omega (arith, same) in
    let inside : later < length layout.bases.items = slice_get_within layout.bases.items later after there in
    let within : before < length layout.contexts.keys = omega (arith, inside, laid.bases, last) in
    let found = base-at graphs layout before laid (omega (arith, within)) in
    let its = laid.each before within in
    let up = base-later graphs layout context base graph k before found.0 laid has begins refl found.1 in
    let next : found.0 + length its.0.units ≡ after =
    one-at layout.bases.items later (found.0 + length its.0.units) after
    (subst (λ (n : ℕ). slice_get layout.bases.items n ≡ Some (found.0 + length its.0.units)) last (laid.next before found.0 its.0 its.1 found.1)) there in
    omega (arith, up, next)

pub base-above : (graphs : List Graph) (layout : Layout) (context base : ℕ) (graph : Graph) (later after : ℕ) →
    IsLaidOut graphs layout → HasGraph graphs layout context graph → slice_get layout.bases.items context ≡ Some base →
    context < later → slice_get layout.bases.items later ≡ Some after → base + length graph.units ≤ after
base-above graphs layout context base graph later after laid has begins less there = by_step (steps context later less) where
  steps : (context later : ℕ) → context < later → (k : ℕ) × (suc (k + context) ≡ later)
  steps context zero less = absurd (omega (arith, less))
  steps zero (suc later) less = (later, omega arith)
  steps (suc context) (suc later) less = let rest = steps context later (omega (arith, less)) in (rest.0, omega (arith, rest.1))

  by_step : (k : ℕ) × (suc (k + context) ≡ later) → base + length graph.units ≤ after
  by_step step = base-later graphs layout context base graph step.0 later after laid has begins step.1 there

-- A place's number is one of its context's.
pub record IsInside (graphs : List Graph) (layout : Layout) (context number : ℕ) : Type 0 where
  pub base : ℕ
  pub begins : slice_get layout.bases.items context ≡ Some base
  pub from : base ≤ number
  pub graph : Graph
  pub has : HasGraph graphs layout context graph
  pub below : number < base + length graph.units

pub spot-inside : (graphs : List Graph) (layout : Layout) (context position : ℕ) (node : Node) (number : ℕ) →
    IsSpot graphs layout context position node number → IsInside graphs layout context number
spot-inside graphs layout context position node number spot = record {
  base = spot.base;
  begins = spot.begins;
  from = omega (arith, spot.counted);
  graph = spot.graph;
  has = spot.has;
  below = omega (arith, spot.counted, slice_get_within spot.graph.units position node spot.there);
}

-- Of two numbers the one of the lesser context is the lesser one.
pub inside-below : (graphs : List Graph) (layout : Layout) (context number later other : ℕ) → IsLaidOut graphs layout →
    IsInside graphs layout context number → IsInside graphs layout later other → context < later → number < other
inside-below graphs layout context number later other laid one another less =
    omega (
      arith,
      one.below,
      another.from,
      base-above graphs layout context one.base one.graph later another.base laid one.has one.begins less another.begins,
    )

pub spot-inner : (graphs : List Graph) (layout : Layout) (context p q : ℕ) (node other : Node) (n m : ℕ) →
    IsSpot graphs layout context p node n → IsSpot graphs layout context q other m → (base : ℕ) × (n ≡ base + p) × (m ≡ base + q)
spot-inner graphs layout context p q node other n m one another =
    let same : one.base ≡ another.base = one-at layout.bases.items context one.base another.base one.begins another.begins in
    (another.base, omega (arith, one.counted, same), another.counted)

abbrev pub IsLower : (context position later other : ℕ) → Type 0
IsLower context position later other = (context < later) ⊎ ((context ≡ later) × (position < other))

pub spot-before : (graphs : List Graph) (layout : Layout) (c p d q : ℕ) (node other : Node) (n m : ℕ) → IsLaidOut graphs layout →
    IsSpot graphs layout c p node n → IsSpot graphs layout d q other m → n < m → IsLower c p d q
spot-before graphs layout c p d q node other n m laid one another less = by_order (cases_lt c d) where
  same : c ≡ d → IsLower c p d q
  same e =
      let parts = spot-inner graphs layout d p q node other n m (subst (λ (k : ℕ). IsSpot graphs layout k p node n) e one) another in
      inr (e, omega (arith, less, parts.1, parts.2))

  by_order : ((c < d) ⊎ (d ≤ c)) → IsLower c p d q
  by_order (inl lower) = inl lower
  by_order (inr most) =
      elim (cases_lt d c) as (λ _. IsLower c p d q) [
        | inl above ↦ absurd (let back : m < n = inside-below graphs layout d m c n laid
            (spot-inside graphs layout d q other m another) (spot-inside graphs layout c p node n one) above in omega (arith, less, back))
        | inr least ↦ same (omega (arith, most, least))
      ]

pub spot-lower : (graphs : List Graph) (layout : Layout) (c p d q : ℕ) (node other : Node) (n m : ℕ) → IsLaidOut graphs layout →
    IsSpot graphs layout c p node n → IsSpot graphs layout d q other m → IsLower c p d q → n < m
spot-lower graphs layout c p d q node other n m laid one another (inl lower) =
    inside-below graphs layout c n d m laid (spot-inside graphs layout c p node n one) (spot-inside graphs layout d q other m another) lower
spot-lower graphs layout c p d q node other n m laid one another (inr within) =
    let parts = spot-inner graphs layout d p q node other n m (subst (λ (k : ℕ). IsSpot graphs layout k p node n) within.0 one) another in
    omega (arith, parts.1, parts.2, within.1)

-- A number is that of one place alone.
pub spot-context : (graphs : List Graph) (layout : Layout) (c p d q : ℕ) (node other : Node) (n : ℕ) → IsLaidOut graphs layout →
    IsSpot graphs layout c p node n → IsSpot graphs layout d q other n → c ≡ d
spot-context graphs layout c p d q node other n laid one another = by_order (cases_lt c d) (cases_lt d c) where
  first : IsInside graphs layout c n
  first = spot-inside graphs layout c p node n one

  second : IsInside graphs layout d n
  second = spot-inside graphs layout d q other n another

  by_order : ((c < d) ⊎ (d ≤ c)) → ((d < c) ⊎ (c ≤ d)) → c ≡ d
  by_order (inl lower) h = absurd (let no : n < n = inside-below graphs layout c n d n laid first second lower in omega (arith, no))
  by_order (inr most) (inl above) = absurd (let no : n < n = inside-below graphs layout d n c n laid second first above in omega (arith, no))
  by_order (inr most) (inr least) = omega (arith, most, least)

pub spot-once : (graphs : List Graph) (layout : Layout) (c p d q : ℕ) (node other : Node) (n : ℕ) → IsLaidOut graphs layout →
    IsSpot graphs layout c p node n → IsSpot graphs layout d q other n → node ≡ other
spot-once graphs layout c p d q node other n laid one another =
    let same : c ≡ d = spot-context graphs layout c p d q node other n laid one another in
    let moved : IsSpot graphs layout d p node n = subst (λ (k : ℕ). IsSpot graphs layout k p node n) same one in
    let parts = spot-inner graphs layout d p q node other n n moved another in
    let place : p ≡ q = omega (arith, parts.1, parts.2) in
    let graph : moved.graph ≡ another.graph = graph-once graphs layout d moved.graph another.graph moved.has another.has in
    one-at another.graph.units q node other
    (subst (λ (k : ℕ). slice_get another.graph.units k ≡ Some node) place
    (subst (λ (g : Graph). slice_get g.units p ≡ Some node) graph moved.there)) another.there

-- The numbers are at least 1, and at most as many as places are allowed.
pub spot-few : (graphs : List Graph) (layout : Layout) (context position : ℕ) (node : Node) (number : ℕ) → IsLaidOut graphs layout →
    IsSpot graphs layout context position node number → number ≤ most_places
spot-few graphs layout context position node number laid spot =
    let inside = spot-inside graphs layout context position node number spot in
    let few = laid.few_places (suc context) (inside.base + length inside.graph.units)
    (laid.next context inside.base inside.graph inside.has inside.begins) in
    omega (arith, few, inside.below)

pub base-positive : (graphs : List Graph) (layout : Layout) (context base : ℕ) → IsLaidOut graphs layout →
    slice_get layout.bases.items context ≡ Some base → 1 ≤ base
base-positive graphs layout zero base laid begins =
    let same : 1 ≡ base = one-at layout.bases.items 0 1 base laid.first begins in omega (arith, same)
base-positive graphs layout (suc context) base laid begins =
    let inside : suc context < length layout.bases.items = slice_get_within layout.bases.items (suc context) base begins in
    let its = laid.each 0 (omega (arith, inside, laid.bases)) in
    omega (arith, base-above graphs layout 0 1 its.0 (suc context) base laid its.1 laid.first (omega arith) begins)

pub spot-positive : (graphs : List Graph) (layout : Layout) (context position : ℕ) (node : Node) (number : ℕ) → IsLaidOut graphs layout →
    IsSpot graphs layout context position node number → 0 < number
spot-positive graphs layout context position node number laid spot =
    omega (arith, spot.counted, base-positive graphs layout context spot.base laid spot.begins)

-- What is read of the positions of graphs is the position of the context's graph.
pub position-read : (graphs : List Graph) (layout : Layout) (context read : ℕ) (graph : Graph) → (has : HasGraph graphs layout context graph) →
    read ≡ get_or layout.functions.items context read → read ≡ has.position
position-read graphs layout context read graph has is =
    is ∙ get_or_from_slice_get layout.functions.items context has.position read has.listed

pub position-within : (graphs : List Graph) (layout : Layout) (context read : ℕ) (graph : Graph) → (has : HasGraph graphs layout context graph) →
    read ≡ get_or layout.functions.items context read → read < length graphs
position-within graphs layout context read graph has is =
    omega (
      arith,
      position-read graphs layout context read graph has is,
      slice_get_within graphs has.position graph has.is,
    )

pub base-read : (graphs : List Graph) (layout : Layout) (context read : ℕ) (graph : Graph) → IsLaidOut graphs layout →
    HasGraph graphs layout context graph → read ≡ get_or layout.bases.items context read → slice_get layout.bases.items context ≡ Some read
base-read graphs layout context read graph laid has is =
    slice_get_read layout.bases.items (length layout.bases.items) context read refl
    (omega (arith, laid.bases, graph-within graphs layout context graph has)) is

pub units-few : (graphs : List Graph) (layout : Layout) (context base : ℕ) (graph : Graph) → IsLaidOut graphs layout →
    HasGraph graphs layout context graph → slice_get layout.bases.items context ≡ Some base → base + length graph.units ≤ most_places + 1
units-few graphs layout context base graph laid has begins =
    laid.few_places (suc context) (base + length graph.units) (laid.next context base graph has begins)
