-- What one position does to the seen and the waiting positions, and two lists of them after one another.
use Rattle.std.proofs.Common.{◌≡◌, ℕ, ◌+◌, ◌<◌, Bool, true, false, not, cond, List, [], ◌∷◌, ◌++◌, take, length, get_or, set, replicate, zero, suc, refl, sym, subst, ap, ◌∙◌, Some, arith, length-append, inl, inr, ◌⊎◌}
use Rattle.std.specs.Prelude.{Contains, slice_get}
use Rattle.std.proofs.Math.ListN.{length-set}
use Rattle.std.proofs.lemmas.Bool.{cases_eq}
use Rattle.std.proofs.lemmas.List.{take_more}
use Rattle.std.proofs.lemmas.List.Sums.{sum_by-set}
use Rattle.std.proofs.lemmas.Option.{get_or_from_slice_get, none-some, same_Some}
use Rattle.std.proofs.lemmas.List.Elements.{Contains-append_left, Contains-append_right, Contains-append_cases, Contains-get_or, Contains-push}
use Rattle.std.proofs.lemmas.List.Quantifiers.{all_pairs_push}
use Rattle.step_table.specs.Search.{IsSeen, Sees, unseen}
use Rattle.step_table.proofs.Places.{place_left}

-- What stands in a list after a write.
pub slice_get-set_same : {X : Type 0} (xs : List X) (i : ℕ) (v : X) → i < length xs →
    slice_get (set xs i v) i ≡ Some v
slice_get-set_same [] i v h = absurd (omega arith)
slice_get-set_same (x ∷ xs) zero v h = refl
slice_get-set_same (x ∷ xs) (suc i) v h = slice_get-set_same xs i v (omega arith)

pub slice_get-set_other : {X : Type 0} (xs : List X) (i k : ℕ) (v : X) → (i ≡ k → ⊥) →
    slice_get (set xs i v) k ≡ slice_get xs k
slice_get-set_other [] i k v h = refl
slice_get-set_other (x ∷ xs) zero zero v h = absurd (h refl)
slice_get-set_other (x ∷ xs) zero (suc k) v h = refl
slice_get-set_other (x ∷ xs) (suc i) zero v h = refl
slice_get-set_other (x ∷ xs) (suc i) (suc k) v h =
    slice_get-set_other xs i k v (λ e. h (ap (λ n. suc n) e))

pub slice_get-replicate : {X : Type 0} (n k : ℕ) (v w : X) → slice_get (replicate n v) k ≡ Some w → v ≡ w
slice_get-replicate zero k v w h = absurd (none-some w h)
slice_get-replicate (suc n) zero v w h = same_Some v w h
slice_get-replicate (suc n) (suc k) v w h = slice_get-replicate n k v w h

-- The items up to one, and one more.
pub one_more : {X : Type 0} (xs : List X) (i : ℕ) (one : X) → i < length xs → one ≡ get_or xs i one →
    take (i + 1) xs ≡ take i xs ++ one ∷ []
one_more {X} xs i one l e = take_more xs i one l ∙ ap (λ (x : X). take i xs ++ x ∷ []) (sym e)

-- The one item of a list.
pub alone : (a x : ℕ) → Contains (a ∷ []) x → a ≡ x
alone a x (zero, inside, e) = e
alone a x (suc k, inside, e) = absurd (omega arith)

pub itself : (a : ℕ) → Contains (a ∷ []) a
itself a = (0, omega arith, refl)

pub in_none : (x : ℕ) → Contains [] x → ⊥
in_none x (k, inside, same) = omega arith

-- A position that is seen now was seen before, or is the new one.
pub seen_cases : (seen : List Bool) (position x : ℕ) → IsSeen (set seen position true) x →
    IsSeen seen x ⊎ (position ≡ x)
seen_cases seen position x h =
    elim (cases_eq position x) as (λ _. IsSeen seen x ⊎ (position ≡ x)) [
      | inl e ↦ inr e
      | inr differ ↦ inl (sym (slice_get-set_other seen position x true differ) ∙ h)
    ]

pub seen_kept : (seen : List Bool) (position x : ℕ) → position < length seen → IsSeen seen x →
    IsSeen (set seen position true) x
seen_kept seen position x within h =
    elim (cases_eq position x) as (λ _. IsSeen (set seen position true) x) [
      | inl e ↦ subst (λ (at : ℕ). IsSeen (set seen position true) at) e
          (slice_get-set_same seen position true within)
      | inr differ ↦ slice_get-set_other seen position x true differ ∙ h
    ]

-- A position is new.
pub Sees-new : (seen : List Bool) (waiting : List ℕ) (position barred : ℕ) → position < length seen →
    (position ≡ barred → ⊥) → get_or seen position false ≡ false →
    Sees (position ∷ []) barred seen waiting (set seen position true) (waiting ++ position ∷ [])
Sees-new seen waiting position barred within free fresh = record {
  count = length-set seen position true;
  kept = λ x h. seen_kept seen position x within h;
  there = λ x h _. subst (IsSeen (set seen position true)) (alone position x h) there;
  only = λ x h. elim (seen_cases seen position x h) [
    | inl p ↦ inl p
    | inr e ↦ inr (subst (λ (at : ℕ). Contains (position ∷ []) at × (at ≡ barred → ⊥)) e (itself position, free))
  ];
  still = λ x h. Contains-append_left waiting (position ∷ []) x h;
  front = λ k x h. place_left waiting (position ∷ []) k x h;
  apart = λ known once. all_pairs_push (λ (x y : ℕ). x ≡ y → ⊥) waiting position once
      (λ k d less same. unknown (subst (IsSeen seen) same (known (get_or waiting k d) (Contains-get_or waiting k d less))));
  new = λ x h. elim (seen_cases seen position x h) [
    | inl p ↦ inl p
    | inr e ↦ inr (subst (Contains (waiting ++ position ∷ [])) e (Contains-push waiting position))
  ];
  known = λ x h. elim (Contains-append_cases waiting (position ∷ []) x h) [
    | inl p ↦ inl p
    | inr q ↦ inr (subst (IsSeen (set seen position true)) (alone position x q) there)
  ];
  counted = omega (
    arith,
    length-append waiting (position ∷ []),
    subst (λ (b : Bool).
        unseen (set seen position true) + cond (not b) 1 0 ≡ unseen seen + cond (not true) 1 0) fresh
        (sum_by-set (λ (b : Bool). cond (not b) 1 0) seen position true false within),
  );
}
  where
    there : IsSeen (set seen position true) position
    there = slice_get-set_same seen position true within

    unknown : IsSeen seen position → ⊥
    unknown h =
        let clash : true ≡ false = sym (get_or_from_slice_get seen position true false h) ∙ fresh in cc

-- The lists stay.
pub Sees-none : (positions : List ℕ) (barred : ℕ) (seen : List Bool) (waiting : List ℕ) →
    ((x : ℕ) → Contains positions x → (x ≡ barred → ⊥) → IsSeen seen x) →
    Sees positions barred seen waiting seen waiting
Sees-none positions barred seen waiting there = record {
  count = refl;
  kept = λ x h. h;
  there = there;
  only = λ x h. inl h;
  still = λ x h. h;
  front = λ k x h. h;
  apart = λ known once. once;
  new = λ x h. inl h;
  known = λ x h. inl h;
  counted = refl;
}

-- One list of positions, and another one behind it.
pub Sees-then : (xs ys : List ℕ) (barred : ℕ) (seen : List Bool) (waiting : List ℕ) (seen1 : List Bool)
    (waiting1 : List ℕ) (seen2 : List Bool) (waiting2 : List ℕ) →
    Sees xs barred seen waiting seen1 waiting1 → Sees ys barred seen1 waiting1 seen2 waiting2 →
    Sees (xs ++ ys) barred seen waiting seen2 waiting2
Sees-then xs ys barred seen waiting seen1 waiting1 seen2 waiting2 f g = record {
  count = g.count ∙ f.count;
  kept = λ x h. g.kept x (f.kept x h);
  there = λ x h free. elim (Contains-append_cases xs ys x h) [
    | inl p ↦ g.kept x (f.there x p free)
    | inr q ↦ g.there x q free
  ];
  only = λ x h. elim (g.only x h) [
    | inl p ↦ elim (f.only x p) [
      | inl q ↦ inl q
      | inr r ↦ inr (Contains-append_left xs ys x r.0, r.1)
    ]
    | inr r ↦ inr (Contains-append_right xs ys x r.0, r.1)
  ];
  still = λ x h. g.still x (f.still x h);
  front = λ k x h. g.front k x (f.front k x h);
  apart = λ known once. g.apart (λ x h. elim (f.known x h) as (λ _. IsSeen seen1 x) [
    | inl p ↦ f.kept x (known x p)
    | inr q ↦ q
  ]) (f.apart known once);
  new = λ x h. elim (g.new x h) [
    | inl p ↦ elim (f.new x p) [
      | inl q ↦ inl q
      | inr r ↦ inr (g.still x r)
    ]
    | inr r ↦ inr r
  ];
  known = λ x h. elim (g.known x h) [
    | inl p ↦ elim (f.known x p) [
      | inl q ↦ inl q
      | inr r ↦ inr (g.kept x r)
    ]
    | inr r ↦ inr r
  ];
  counted = omega (arith, f.counted, g.counted);
}
