-- What one address does to a set, and two lists of addresses after one another.
use Rattle.std.proofs.Common.{◌≡◌, ℕ, true, List, [], ◌∷◌, ◌++◌, subst, inl, inr, ◌⊎◌}
use Rattle.std.specs.Prelude.{Contains}
use Rattle.std.specs.BTreeSet.{BTreeSet, Updates, contains}
use Rattle.std.specs.List.Sorted.{IsStrictlySortedBy}
use Rattle.std.specs.Ordering.{nat_cmp, eq_by_cmp}
use Rattle.std.proofs.lemmas.Map.Lookups.{exact_unsigned}
use Rattle.std.proofs.lemmas.Map.Views.{tells_apart}
use Rattle.std.proofs.lemmas.List.Elements.{Contains-append_left, Contains-push, Contains-push_cases}
use Rattle.code_units.proofs.Lists.{in_none}
use Rattle.unit_graph.specs.Search.{Gains}
use Rattle.unit_graph.proofs.Seen.{either, held, right, there}

-- An address is added, new or not.
pub Gains-one : (s n : BTreeSet ℕ) (address : ℕ) → Updates nat_cmp s n address true → IsStrictlySortedBy nat_cmp n.keys →
    Gains (λ x. address ≡ x) s.keys n.keys
Gains-one s n address updates rising = record {
  kept = λ x h. there n x
      (right (eq_by_cmp nat_cmp address x) (contains nat_cmp s x) (contains nat_cmp n x) (updates.0 x) (held s x h));
  there = λ x h. there n x (subst (λ y. contains nat_cmp n y ≡ true) h updates.1);
  only = λ x h.
      elim (either (eq_by_cmp nat_cmp address x) (contains nat_cmp s x) (contains nat_cmp n x) (updates.0 x) (held n x h)) [
        | inl same ↦ inr (tells_apart exact_unsigned address x same)
        | inr old ↦ inl (there s x old)
      ];
  rising = λ h. rising;
}

-- The set stays.
pub Gains-none : (these : ℕ → Type 0) (keys : List ℕ) → ((x : ℕ) → these x → Contains keys x) → Gains these keys keys
Gains-none these keys within = record {
  kept = λ x h. h;
  there = within;
  only = λ x h. inl h;
  rising = λ h. h;
}

-- Some addresses, and others after them.
pub Gains-then : (these others : ℕ → Type 0) (keys keys1 keys2 : List ℕ) → Gains these keys keys1 →
    Gains others keys1 keys2 → Gains (λ x. these x ⊎ others x) keys keys2
Gains-then these others keys keys1 keys2 f g = record {
  kept = λ x h. g.kept x (f.kept x h);
  there = λ x h. elim h [
    | inl p ↦ g.kept x (f.there x p)
    | inr q ↦ g.there x q
  ];
  only = λ x h. elim (g.only x h) [
    | inl p ↦ elim (f.only x p) [
      | inl q ↦ inl q
      | inr r ↦ inr (inl r)
    ]
    | inr r ↦ inr (inr r)
  ];
  rising = λ h. g.rising (f.rising h);
}

-- The same addresses, said otherwise.
pub Gains-same : (these others : ℕ → Type 0) (keys later : List ℕ) → ((x : ℕ) → these x → others x) →
    ((x : ℕ) → others x → these x) → Gains these keys later → Gains others keys later
Gains-same these others keys later into back f = record {
  kept = f.kept;
  there = λ x h. f.there x (back x h);
  only = λ x h. elim (f.only x h) [ inl p ↦ inl p | inr q ↦ inr (into x q) ];
  rising = f.rising;
}

-- One more item of a list.
pub Gains-more : (xs : List ℕ) (y : ℕ) (keys keys1 keys2 : List ℕ) → Gains (Contains xs) keys keys1 →
    Gains (λ x. y ≡ x) keys1 keys2 → Gains (Contains (xs ++ y ∷ [])) keys keys2
Gains-more xs y keys keys1 keys2 f g =
    Gains-same (λ x. Contains xs x ⊎ (y ≡ x)) (Contains (xs ++ y ∷ [])) keys keys2
    (λ x h. elim h [
      | inl p ↦ Contains-append_left xs (y ∷ []) x p
      | inr e ↦ subst (Contains (xs ++ y ∷ [])) e (Contains-push xs y)
    ])
    (λ x h. Contains-push_cases xs y x h)
    (Gains-then (Contains xs) (λ x. y ≡ x) keys keys1 keys2 f g)

-- No address of an empty list.
pub Gains-nobody : (keys : List ℕ) → Gains (Contains []) keys keys
Gains-nobody keys = Gains-none (Contains []) keys (λ x h. absurd (in_none x h))
