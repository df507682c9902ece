-- The first fault of a list of layers is the first fault of the first layer that has one.
use Rattle.std.proofs.Common.{◌≡◌, ℕ, ◌<◌, ◌⊎◌, inl, inr, List, [], ◌∷◌, ◌++◌, refl, sym, ap, subst, arith}
use Rattle.wcet_engine.specs.Layers.{AnyOf, IsFirst, Nested, OneKind}

-- A layer has no offender; none of the layers has one.
abbrev pub IsFree : {K P : Type 0} → (K → P → Type 0) → Type 0
IsFree {K = K} {P = P} Offends = (kind : K) (place : P) → Offends kind place → ⊥

abbrev pub AreFree : {K P : Type 0} → List (K → P → Type 0) → Type 0
AreFree [] = Unit {0}
AreFree (layer ∷ layers) = IsFree layer × AreFree layers

pub none-of : {K P : Type 0} (layers : List (K → P → Type 0)) → AreFree layers → IsFree (AnyOf layers)
none-of [] free kind place offends = offends
none-of (layer ∷ layers) free kind place (inl offends) = free.0 kind place offends
none-of (layer ∷ layers) free kind place (inr offends) = none-of layers free.1 kind place offends

-- The kinds of all the layers come after a kind.
pub record ComeAfter {K P : Type 0} (rank : K → ℕ) (kind : K) (layers : List (K → P → Type 0)) : Type 0 where
  pub later : (other : K) (spot : P) → AnyOf layers other spot → rank kind < rank other

-- The law: the layers in front have no offender, and the kinds of those behind come later.
pub first-of : {K P : Type 0} (rank : K → ℕ) (IsLess : P → P → Type 0) (front : List (K → P → Type 0)) (layer : K → P → Type 0)
    (back : List (K → P → Type 0)) (kind : K) (place : P) → AreFree front → ComeAfter rank kind back →
    IsFirst rank IsLess layer kind place → IsFirst rank IsLess (AnyOf (front ++ layer ∷ back)) kind place
first-of {K = K} {P = P} rank IsLess [] layer back kind place free after is = record {
  offends = inl is.offends;
  first = by_kind;
  least = by_place;
} where
  by_kind : (other : K) (spot : P) → rank other < rank kind → layer other spot ⊎ AnyOf back other spot → ⊥
  by_kind other spot earlier (inl offends) = is.first other spot earlier offends
  by_kind other spot earlier (inr offends) = let later = after.later other spot offends in omega (arith, earlier, later)

  by_place : (lesser : P) → IsLess lesser place → layer kind lesser ⊎ AnyOf back kind lesser → ⊥
  by_place lesser less (inl offends) = is.least lesser less offends
  by_place lesser less (inr offends) = let later = after.later kind lesser offends in omega (arith, later)
first-of {K = K} {P = P} rank IsLess (early ∷ front) layer back kind place free after is =
    let rest = first-of rank IsLess front layer back kind place free.1 after is in
    record { offends = inr rest.offends; first = by_kind rest; least = by_place rest } where
      by_kind : IsFirst rank IsLess (AnyOf (front ++ layer ∷ back)) kind place → (other : K) (spot : P) → rank other < rank kind →
          early other spot ⊎ AnyOf (front ++ layer ∷ back) other spot → ⊥
      by_kind rest other spot earlier (inl offends) = free.0 other spot offends
      by_kind rest other spot earlier (inr offends) = rest.first other spot earlier offends

      by_place : IsFirst rank IsLess (AnyOf (front ++ layer ∷ back)) kind place → (lesser : P) → IsLess lesser place →
          early kind lesser ⊎ AnyOf (front ++ layer ∷ back) kind lesser → ⊥
      by_place rest lesser less (inl offends) = free.0 kind lesser offends
      by_place rest lesser less (inr offends) = rest.least lesser less offends

-- No layers; one more in front; one in front of the one kind own, after which the others come.
pub after-none : {K P : Type 0} (rank : K → ℕ) (kind : K) → ComeAfter {K = K} {P = P} rank kind []
after-none rank kind = record { later = λ other spot none. absurd none }

pub after-more : {K P : Type 0} (rank : K → ℕ) (kind : K) (layer : K → P → Type 0) (layers : List (K → P → Type 0)) →
    ((other : K) (spot : P) → layer other spot → rank kind < rank other) → ComeAfter rank kind layers → ComeAfter rank kind (layer ∷ layers)
after-more {K = K} {P = P} rank kind layer layers later after = record { later = by_layer } where
  by_layer : (other : K) (spot : P) → layer other spot ⊎ AnyOf layers other spot → rank kind < rank other
  by_layer other spot (inl offends) = later other spot offends
  by_layer other spot (inr rest) = after.later other spot rest

pub after-next : {K P : Type 0} (rank : K → ℕ) (kind own : K) (Offends : P → Type 0) (layers : List (K → P → Type 0)) →
    rank kind < rank own → ComeAfter rank own layers → ComeAfter rank kind (OneKind own Offends ∷ layers)
after-next rank kind own Offends layers earlier after =
    after-more rank kind (OneKind own Offends) layers
    (λ other spot is. let same = ap rank is.same in omega (arith, earlier, same))
    (record { later = λ other spot offends. let later = after.later other spot offends in omega (arith, earlier, later) })

pub after-nested : {I K P : Type 0} (rank : K → ℕ) (kind : K) (made : I → K) (Offends : I → P → Type 0) (layers : List (K → P → Type 0)) →
    ((inner : I) → rank kind < rank (made inner)) → ComeAfter rank kind layers → ComeAfter rank kind (Nested made Offends ∷ layers)
after-nested rank kind made Offends layers later after =
    after-more rank kind (Nested made Offends) layers
    (λ other spot is. let same = ap rank is.same in let less = later is.inner in omega (arith, less, same)) after

-- The first fault of a layer of one kind is its least offender; one whose offenders have one place alone.
pub first-least : {K P : Type 0} (rank : K → ℕ) (IsLess : P → P → Type 0) (Offends : P → Type 0) (kind : K) (place : P) → Offends place →
    ((lesser : P) → IsLess lesser place → Offends lesser → ⊥) → IsFirst rank IsLess (OneKind kind Offends) kind place
first-least rank IsLess Offends kind place offends least = record {
  offends = record { same = refl; offends = offends };
  first = λ other spot earlier is. let same = ap rank is.same in omega (arith, earlier, same);
  least = λ lesser less is. least lesser less is.offends;
}

pub first-at : {K : Type 0} (rank : K → ℕ) (kind : K) (at : ℕ) (Says : Type 0) → Says →
    IsFirst rank ◌<◌ (OneKind kind (λ place. (place ≡ at) × Says)) kind at
first-at rank kind at Says says =
    first-least rank ◌<◌ (λ place. (place ≡ at) × Says) kind at (refl, says)
    (λ lesser less offends. let same = offends.0 in omega (arith, less, same))

-- The first fault of kinds that have an order of their own is that of the kinds which are made of them.
pub first-nested : {I K P : Type 0} (made : I → K) (rank : K → ℕ) (order : I → ℕ) (IsLess : P → P → Type 0) (Offends : I → P → Type 0)
    (inner : I) (place : P) → ((one other : I) → made one ≡ made other → one ≡ other) →
    ((one other : I) → rank (made one) < rank (made other) → order one < order other) →
    IsFirst order IsLess Offends inner place → IsFirst rank IsLess (Nested made Offends) (made inner) place
first-nested made rank order IsLess Offends inner place alike rising is = record {
  offends = record { inner = inner; same = refl; offends = is.offends };
  first = λ other spot earlier fault.
      is.first fault.inner spot (rising fault.inner inner (subst (λ kind. rank kind < rank (made inner)) fault.same earlier)) fault.offends;
  least = λ lesser less fault.
      is.least lesser less (subst (λ own. Offends own lesser) (sym (alike inner fault.inner fault.same)) fault.offends);
}

-- The first fault of a layer is that of another one which tells the same of places of another form.
pub first-same : {K P Q : Type 0} (rank : K → ℕ) (IsLess : P → P → Type 0) (IsLesser : Q → Q → Type 0) (Offends : K → P → Type 0)
    (Others : K → Q → Type 0) (at : P → Q) (kind : K) (place : P) → ((other : K) (spot : P) → Offends other spot → Others other (at spot)) →
    ((other : K) (spot : Q) → Others other spot → (from : P) × (spot ≡ at from) × Offends other from) →
    ((one other : P) → IsLesser (at one) (at other) → IsLess one other) →
    IsFirst rank IsLess Offends kind place → IsFirst rank IsLesser Others kind (at place)
first-same rank IsLess IsLesser Offends Others at kind place there back less is = record {
  offends = there kind place is.offends;
  first = λ other spot earlier offends. let from = back other spot offends in is.first other from.0 earlier from.2;
  least = λ spot lesser offends.
      let from = back kind spot offends in
      is.least from.0 (less from.0 place (subst (λ other. IsLesser other (at place)) from.1 lesser)) from.2;
}
