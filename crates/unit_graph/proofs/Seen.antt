-- What one address does to the sets of seen and waiting addresses, and two lists of them after one another.
use Rattle.std.proofs.Common.{◌≡◌, ℕ, ◌+◌, ◌<◌, ◌^◌, Bool, true, false, not, cond, List, [], ◌∷◌, ◌++◌, length, refl, sym, subst, ◌∙◌, arith, length-append, inl, inr, ◌⊎◌}
use Rattle.std.specs.Prelude.{Contains}
use Rattle.std.specs.BTreeSet.{BTreeSet, Updates, contains}
use Rattle.std.specs.List.Sorted.{IsStrictlySortedBy}
use Rattle.std.specs.Ordering.{nat_cmp, eq_by_cmp}
use Rattle.std.proofs.lemmas.Cmp.{nat_cmp_total}
use Rattle.std.proofs.lemmas.Map.Lookups.{exact_unsigned}
use Rattle.std.proofs.lemmas.Map.Views.{btree_set_contains_iff, tells_apart}
use Rattle.std.proofs.lemmas.List.Elements.{Contains-append_left, Contains-append_cases, Contains-push, Contains-push_cases}
use Rattle.code_units.proofs.Lists.{alone, in_none}
use Rattle.unit_graph.specs.Search.{Sees}

-- What is in a set.
pub there : (s : BTreeSet ℕ) (x : ℕ) → contains nat_cmp s x ≡ true → Contains s.keys x
there s x h = (btree_set_contains_iff nat_cmp_total exact_unsigned s x).0 h

pub held : (s : BTreeSet ℕ) (x : ℕ) → Contains s.keys x → contains nat_cmp s x ≡ true
held s x h = (btree_set_contains_iff nat_cmp_total exact_unsigned s x).1 h

pub either : (b old now : Bool) → now ≡ cond b true old → now ≡ true → (b ≡ true) ⊎ (old ≡ true)
either true old now e h = inl refl
either false old now e h = inr (sym e ∙ h)

pub right : (b old now : Bool) → now ≡ cond b true old → old ≡ true → now ≡ true
right true old now e h = e
right false old now e h = e ∙ h

left : (b old now : Bool) → now ≡ cond b true old → b ≡ true → now ≡ true
left true old now e h = e
left false old now e h = cc

-- An address is new in the set.
pub Sees-new : (s n : BTreeSet ℕ) (address : ℕ) (waiting : List ℕ) → address < 2 ^ 32 →
    Updates nat_cmp s n address true → IsStrictlySortedBy nat_cmp n.keys →
    length n.keys ≡ length s.keys + 1 →
    Sees (λ x. address ≡ x) s.keys waiting n.keys (waiting ++ address ∷ [])
Sees-new s n address waiting low updates rising longer = record {
  kept = λ x h. there n x (right (eq_by_cmp nat_cmp address x) (contains nat_cmp s x) (contains nat_cmp n x) (updates.0 x) (held s x h));
  there = λ x h. there n x (subst (λ y. contains nat_cmp n y ≡ true) h updates.1);
  only = λ x h.
      elim (either (eq_by_cmp nat_cmp address x) (contains nat_cmp s x) (contains nat_cmp n x) (updates.0 x) (held n x h)) [
        | inl same ↦ inr (tells_apart exact_unsigned address x same)
        | inr old ↦ inl (there s x old)
      ];
  still = λ x h. Contains-append_left waiting (address ∷ []) x h;
  new = λ x h.
      elim (either (eq_by_cmp nat_cmp address x) (contains nat_cmp s x) (contains nat_cmp n x) (updates.0 x) (held n x h)) [
        | inl same ↦ inr (subst (Contains (waiting ++ address ∷ [])) (tells_apart exact_unsigned address x same) (Contains-push waiting address))
        | inr old ↦ inl (there s x old)
      ];
  known = λ x h. elim (Contains-append_cases waiting (address ∷ []) x h) [ inl p ↦ inl p | inr q ↦ inr (alone address x q) ];
  low = λ x h. subst (λ y. y < 2 ^ 32) h low;
  rising = λ h. rising;
  counted = omega (arith, longer, length-append waiting (address ∷ []));
  more = omega (arith, longer);
}

-- The lists stay.
pub Sees-none : (these : ℕ → Type 0) (seen waiting : List ℕ) → ((x : ℕ) → these x → Contains seen x) →
    ((x : ℕ) → these x → x < 2 ^ 32) → Sees these seen waiting seen waiting
Sees-none these seen waiting within low = record {
  kept = λ x h. h;
  there = within;
  only = λ x h. inl h;
  still = λ x h. h;
  new = λ x h. inl h;
  known = λ x h. inl h;
  low = low;
  rising = λ h. h;
  counted = refl;
  more = omega arith;
}

-- An address that the set had.
pub Sees-old : (s : BTreeSet ℕ) (keys : List ℕ) (address : ℕ) (waiting : List ℕ) → address < 2 ^ 32 →
    contains nat_cmp s address ≡ true → keys ≡ s.keys → Sees (λ x. address ≡ x) s.keys waiting keys waiting
Sees-old s keys address waiting low had same =
    subst (λ ks. Sees (λ x. address ≡ x) s.keys waiting ks waiting) (sym same)
    (Sees-none (λ x. address ≡ x) s.keys waiting
    (λ x h. subst (Contains s.keys) h (there s address had))
    (λ x h. subst (λ y. y < 2 ^ 32) h low))

-- Some addresses, and others behind them.
pub Sees-then : (these others : ℕ → Type 0) (seen waiting seen1 waiting1 seen2 waiting2 : List ℕ) →
    Sees these seen waiting seen1 waiting1 → Sees others seen1 waiting1 seen2 waiting2 →
    Sees (λ x. these x ⊎ others x) seen waiting seen2 waiting2
Sees-then these others seen waiting seen1 waiting1 seen2 waiting2 f g = record {
  kept = λ x h. g.kept x (f.kept x h);
  there = λ x h. elim h [
    | inl p ↦ g.kept x (f.there x p)
    | inr q ↦ g.there x q
  ];
  only = λ x h. elim (g.only x h) [
    | inl p ↦ elim (f.only x p) [
      | inl q ↦ inl q
      | inr r ↦ inr (inl r)
    ]
    | inr r ↦ inr (inr r)
  ];
  still = λ x h. g.still x (f.still x h);
  new = λ x h. elim (g.new x h) [
    | inl p ↦ elim (f.new x p) [
      | inl q ↦ inl q
      | inr r ↦ inr (g.still x r)
    ]
    | inr r ↦ inr r
  ];
  known = λ x h. elim (g.known x h) [
    | inl p ↦ elim (f.known x p) [
      | inl q ↦ inl q
      | inr r ↦ inr (inl r)
    ]
    | inr r ↦ inr (inr r)
  ];
  low = λ x h. elim h [ inl p ↦ f.low x p | inr q ↦ g.low x q ];
  rising = λ h. g.rising (f.rising h);
  counted = omega (arith, f.counted, g.counted);
  more = omega (arith, f.more, g.more);
}

-- The same addresses, said otherwise.
pub Sees-same : (these others : ℕ → Type 0) (seen waiting seen1 waiting1 : List ℕ) → ((x : ℕ) → these x → others x) →
    ((x : ℕ) → others x → these x) → Sees these seen waiting seen1 waiting1 → Sees others seen waiting seen1 waiting1
Sees-same these others seen waiting seen1 waiting1 into back f = record {
  kept = f.kept;
  there = λ x h. f.there x (back x h);
  only = λ x h. elim (f.only x h) [ inl p ↦ inl p | inr q ↦ inr (into x q) ];
  still = f.still;
  new = f.new;
  known = λ x h. elim (f.known x h) [ inl p ↦ inl p | inr q ↦ inr (into x q) ];
  low = λ x h. f.low x (back x h);
  rising = f.rising;
  counted = f.counted;
  more = f.more;
}

-- One more item of a list.
pub Sees-more : (xs : List ℕ) (y : ℕ) (seen waiting seen1 waiting1 seen2 waiting2 : List ℕ) →
    Sees (Contains xs) seen waiting seen1 waiting1 → Sees (λ x. y ≡ x) seen1 waiting1 seen2 waiting2 →
    Sees (Contains (xs ++ y ∷ [])) seen waiting seen2 waiting2
Sees-more xs y seen waiting seen1 waiting1 seen2 waiting2 f g =
    Sees-same (λ x. Contains xs x ⊎ (y ≡ x)) (Contains (xs ++ y ∷ [])) seen waiting seen2 waiting2
    (λ x h. elim h [ inl p ↦ Contains-append_left xs (y ∷ []) x p | inr e ↦ subst (Contains (xs ++ y ∷ [])) e (Contains-push xs y) ])
    (λ x h. Contains-push_cases xs y x h)
    (Sees-then (Contains xs) (λ x. y ≡ x) seen waiting seen1 waiting1 seen2 waiting2 f g)

-- No address of an empty list.
pub Sees-nobody : (seen waiting : List ℕ) → Sees (Contains []) seen waiting seen waiting
Sees-nobody seen waiting = Sees-none (Contains []) seen waiting (λ x h. absurd (in_none x h)) (λ x h. absurd (in_none x h))

-- What `insert` says of an address that isn't new.
pub had_by : (added held : Bool) → added ≡ not held → added ≡ false → held ≡ true
had_by added true e f = refl
had_by added false e f = cc
