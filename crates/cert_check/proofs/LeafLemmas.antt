-- Leaves with the same numbers, and the parts of their lines.
use Rattle.std.proofs.Common.{◌≡◌, ℕ, ◌<◌, Bool, true, false, List, [], ◌∷◌, ◌++◌, length, get_or, refl, sym, ap, subst, ◌∙◌, append_assoc, arith, codes}
use Rattle.std.specs.Prelude.{All, AllPairs, flat_map, ℤ, pos, if◌then◌else◌}
use Rattle.std.specs.Fmt.{signed_decimal}
use Rattle.std.proofs.Props.{props}
use Rattle.ipet_program.specs.declared.leaf.Leaf.{Leaf}
use Rattle.ipet_program.specs.declared.leaf.Weight.{Weight}
use Rattle.cert_check.specs.Leaves.{TakesLeaf}
use Rattle.cert_check.specs.Numbers.{IsStop}
use Rattle.cert_check.specs.Texts.{leaf_text, weight_text}
use Rattle.cert_check.specs.Weights.{AreWeights}
use Rattle.cert_check.proofs.WeightLemmas.{stops}

abbrev Rising : List Weight → Type 0
Rising weights = AllPairs (λ w v. w.row < v.row) weights

abbrev AreSome : List Weight → Type 0
AreSome weights = All (λ w. w.times ≡ pos 0 → ⊥) weights

abbrev IsOne : Bool → ℤ → Type 0
IsOne empty denom = empty ≡ true → denom ≡ pos 1

abbrev made : (denom : ℤ) (empty : Bool) (weights : List Weight) → Rising weights → AreSome weights → IsOne empty denom → Leaf
made denom empty weights rising some one =
    record { denom = denom; empty = empty; weights = weights; rising = rising; some = some; one = one }

rising_same : (weights : List Weight) (a b : Rising weights) → a ≡ b
rising_same weights = hlevel props

some_same : (weights : List Weight) (a b : AreSome weights) → a ≡ b
some_same weights = hlevel props

one_same : (empty : Bool) (denom : ℤ) (a b : IsOne empty denom) → a ≡ b
one_same empty denom = hlevel props

by_facts : (a : Leaf) (rising : Rising a.weights) (some : AreSome a.weights) (one : IsOne a.empty a.denom) →
    a ≡ made a.denom a.empty a.weights rising some one
by_facts a rising some one =
    ap (λ (x : Rising a.weights). made a.denom a.empty a.weights x a.some a.one) (rising_same a.weights a.rising rising)
    ∙ ap (λ (x : AreSome a.weights). made a.denom a.empty a.weights rising x a.one) (some_same a.weights a.some some)
    ∙ ap (λ (x : IsOne a.empty a.denom). made a.denom a.empty a.weights rising some x) (one_same a.empty a.denom a.one one)

by_numbers : (a : Leaf) (denom : ℤ) (empty : Bool) (weights : List Weight) → a.denom ≡ denom → a.empty ≡ empty →
    a.weights ≡ weights → (rising : Rising weights) (some : AreSome weights) (one : IsOne empty denom) →
    a ≡ made denom empty weights rising some one
by_numbers a denom empty weights p q r =
    subst (λ (d : ℤ). (rising : Rising weights) (some : AreSome weights) (one : IsOne empty d) → a ≡ made d empty weights rising some one) p
    (subst (λ (e : Bool). (rising : Rising weights) (some : AreSome weights) (one : IsOne e a.denom) → a ≡ made a.denom e weights rising some one) q
    (subst (λ (ws : List Weight). (rising : Rising ws) (some : AreSome ws) (one : IsOne a.empty a.denom) → a ≡ made a.denom a.empty ws rising some one) r
    (by_facts a)))

-- Leaves with the same numbers are the same: each fact that the type keeps has one proof.
pub leaf_same : (a b : Leaf) → a.denom ≡ b.denom → a.empty ≡ b.empty → a.weights ≡ b.weights → a ≡ b
leaf_same a b p q r = by_numbers a b.denom b.empty b.weights p q r b.rising b.some b.one

-- The parts of a leaf's line.
pub record Parts (bytes : List ℕ) (leaf : Leaf) (rest : List ℕ) : Type 0 where
  pub stop : ℕ
  pub after : List ℕ
  pub ends : IsStop stop
  pub head : bytes ≡ codes "leaf " ++ (signed_decimal leaf.denom ++ stop ∷ after)
  pub tail : stop ∷ after ≡ flat_map weight_text leaf.weights ++ 10 ∷ rest

pub are_weights : (bytes : List ℕ) (leaf : Leaf) (rest : List ℕ) → TakesLeaf bytes leaf rest → AreWeights leaf.weights
are_weights bytes leaf rest t = record { fit = t.fits.1; rising = leaf.rising; some = leaf.some }

abbrev head_by : Bool → ℤ → List ℕ
head_by empty denom = if empty then codes "empty" else codes "leaf " ++ signed_decimal denom

regroup : (a b c d : List ℕ) → ((a ++ b) ++ c ++ codes "\n") ++ d ≡ a ++ (b ++ (c ++ 10 ∷ d))
regroup a b c d = simp append_assoc

pub parts_of : (bytes : List ℕ) (leaf : Leaf) (rest : List ℕ) → leaf.empty ≡ false → TakesLeaf bytes leaf rest → Parts bytes leaf rest
parts_of bytes leaf rest e t =
    let s = stops leaf.weights rest in
    let is = subst (λ (b : Bool). bytes ≡ (head_by b leaf.denom ++ flat_map weight_text leaf.weights ++ codes "\n") ++ rest) e t.is in
    record {
      stop = s.stop;
      after = s.rest;
      ends = s.ends;
      head =
          is ∙ regroup (codes "leaf ") (signed_decimal leaf.denom) (flat_map weight_text leaf.weights) rest
          ∙ ap (λ (x : List ℕ). codes "leaf " ++ (signed_decimal leaf.denom ++ x)) s.is;
      tail = sym s.is;
    }

pub empty_parts : (bytes : List ℕ) (leaf : Leaf) (rest : List ℕ) → leaf.empty ≡ true → TakesLeaf bytes leaf rest →
    bytes ≡ codes "empty" ++ (flat_map weight_text leaf.weights ++ 10 ∷ rest)
empty_parts bytes leaf rest e t =
    let is = subst (λ (b : Bool). bytes ≡ (head_by b leaf.denom ++ flat_map weight_text leaf.weights ++ codes "\n") ++ rest) e t.is in
    is ∙ simp append_assoc
