-- How a search goes on, and that it has found each address to which its start leads when none waits.
use Rattle.std.proofs.Common.{◌≡◌, ℕ, ◌+◌, ◌-◌, ◌*◌, ◌<◌, ◌≤◌, ◌^◌, List, [], ◌∷◌, ◌++◌, length, refl, subst, ap, ◌∙◌, arith, length-append, inl, inr, ◌⊎◌}
use Rattle.std.specs.Prelude.{Contains}
use Rattle.std.specs.List.Sorted.{IsStrictlySortedBy}
use Rattle.std.specs.Ordering.{nat_cmp}
use Rattle.std.proofs.lemmas.Map.Keys.{below_from_sorted}
use Rattle.std.proofs.lemmas.Map.Views.{length-le_from_below}
use Rattle.std.proofs.lemmas.List.Elements.{All-contains_itself, All-weaker, Contains-append_left, Contains-push, Contains-push_cases}
use Rattle.code_units.proofs.Lists.{in_none}
use Rattle.unit_graph.specs.Search.{AreLed, IsDone, IsLed, IsSearch, Sees, begins, goes}

nothing : (none : List ℕ) (x : ℕ) → none ≡ [] → Contains none x → ⊥
nothing none x e h = in_none x (subst (λ (xs : List ℕ). Contains xs x) e h)

-- At the first the start alone waits.
pub IsSearch-start : (leads : ℕ → ℕ → Type 0) (start : ℕ) (none nobody seen waiting : List ℕ) → none ≡ [] → nobody ≡ [] →
    IsStrictlySortedBy nat_cmp none → Sees (λ x. start ≡ x) none nobody seen waiting →
    IsSearch leads start seen waiting
IsSearch-start leads start none nobody seen waiting none_is nobody_is empty sees = record {
  begun = sees.there start refl;
  sound = λ x h. elim (sees.only x h) [
    | inl p ↦ absurd (nothing none x none_is p)
    | inr q ↦ subst (IsLed leads start) q begins
  ];
  known = λ x h. elim (sees.known x h) [ inl p ↦ absurd (nothing nobody x nobody_is p) | inr q ↦ sees.there x q ];
  done = λ x h. elim (sees.new x h) [ inl p ↦ absurd (nothing none x none_is p) | inr q ↦ inl q ];
  low = λ x h. elim (sees.only x h) [ inl p ↦ absurd (nothing none x none_is p) | inr q ↦ sees.low x q ];
  rising = sees.rising empty;
}

-- One address is taken, and all to which it leads are seen.
turn : (leads : ℕ → ℕ → Type 0) (start address : ℕ) (seen rest later_seen later_waiting : List ℕ) →
    IsSearch leads start seen (rest ++ address ∷ []) → Sees (leads address) seen rest later_seen later_waiting →
    IsSearch leads start later_seen later_waiting
turn leads start address seen rest later_seen later_waiting search sees =
    let led : IsLed leads start address =
    search.sound address (search.known address (Contains-push rest address)) in
    record {
      begun = sees.kept start search.begun;
      sound = λ x h. elim (sees.only x h) [
        | inl p ↦ search.sound x p
        | inr q ↦ goes address x led q
      ];
      known = λ x h. elim (sees.known x h) [
        | inl p ↦ sees.kept x (search.known x (Contains-append_left rest (address ∷ []) x p))
        | inr q ↦ sees.there x q
      ];
      done = λ x h. elim (sees.new x h) [
        | inl p ↦ done_by x (search.done x p)
        | inr q ↦ inl q
      ];
      low = λ x h. elim (sees.only x h) [ inl p ↦ search.low x p | inr q ↦ sees.low x q ];
      rising = sees.rising search.rising;
    }
  where
    done_by : (x : ℕ) → Contains (rest ++ address ∷ []) x ⊎ IsDone leads seen x →
        Contains later_waiting x ⊎ IsDone leads later_seen x
    done_by x (inr d) = inr (λ y h. sees.kept y (d y h))
    done_by x (inl w) = elim (Contains-push_cases rest address x w) [
      | inl p ↦ inl (sees.still x p)
      | inr e ↦ inr (subst (IsDone leads later_seen) e sees.there)
    ]

pub IsSearch-turn : (leads : ℕ → ℕ → Type 0) (start address : ℕ) (seen waiting rest later_seen later_waiting : List ℕ) →
    IsSearch leads start seen waiting → waiting ≡ rest ++ address ∷ [] →
    Sees (leads address) seen rest later_seen later_waiting → IsSearch leads start later_seen later_waiting
IsSearch-turn leads start address seen waiting rest later_seen later_waiting search e sees =
    turn leads start address seen rest later_seen later_waiting (subst (IsSearch leads start seen) e search) sees

-- There are at most all addresses.
pub few_seen : (seen : List ℕ) → IsStrictlySortedBy nat_cmp seen → ((x : ℕ) → Contains seen x → x < 2 ^ 32) →
    length seen ≤ 2 ^ 32
few_seen seen rising low =
    length-le_from_below (2 ^ 32) seen rising
    (All-weaker (Contains seen) (λ x. x < 2 ^ 32) low seen (All-contains_itself seen))

pub shrinks : (seen waiting rest later_seen later_waiting : ℕ) → later_seen ≤ 2 ^ 32 → seen ≤ later_seen →
    later_seen + rest ≡ seen + later_waiting → waiting ≡ rest + 1 →
    2 * (2 ^ 32 - later_seen) + later_waiting < 2 * (2 ^ 32 - seen) + waiting
shrinks seen waiting rest later_seen later_waiting few more counted one = omega arith

-- Each turn takes a waiting address; each that comes in its place was not seen before.
pub turn_shrinks : (these : ℕ → Type 0) (address : ℕ) (seen waiting rest later_seen later_waiting : List ℕ) →
    length later_seen ≤ 2 ^ 32 → Sees these seen rest later_seen later_waiting → waiting ≡ rest ++ address ∷ [] →
    2 * (2 ^ 32 - length later_seen) + length later_waiting < 2 * (2 ^ 32 - length seen) + length waiting
turn_shrinks these address seen waiting rest later_seen later_waiting few sees e =
    shrinks (length seen) (length waiting) (length rest) (length later_seen) (length later_waiting)
    few sees.more sees.counted
    (ap length e ∙ length-append rest (address ∷ []))

-- None waits, so that each address to which the start leads is seen.
whole : (leads : ℕ → ℕ → Type 0) (start : ℕ) (seen : List ℕ) → IsSearch leads start seen [] →
    (x : ℕ) → IsLed leads start x → Contains seen x
whole leads start seen search _ begins = search.begun
whole leads start seen search _ (goes x y led on) =
    elim (search.done x (whole leads start seen search x led)) [
      | inl p ↦ absurd (in_none x p)
      | inr d ↦ d y on
    ]

pub empty_by : (xs : List ℕ) → (0 < length xs → ⊥) → xs ≡ []
empty_by [] none = refl
empty_by (x ∷ xs) none = absurd (none (omega arith))

pub IsSearch-end : (leads : ℕ → ℕ → Type 0) (start : ℕ) (seen waiting : List ℕ) → IsSearch leads start seen waiting →
    (0 < length waiting → ⊥) → AreLed leads start seen
IsSearch-end leads start seen waiting search none =
    let ended : IsSearch leads start seen [] =
    subst (IsSearch leads start seen) (empty_by waiting none) search in
    record {
      rising = λ i j d less inside. below_from_sorted seen i j d search.rising less inside;
      low = search.low;
      sound = search.sound;
      whole = whole leads start seen ended;
    }
