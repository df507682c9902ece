-- A nested net that is written out: a loop within a loop, entered at the outer header.
use Rattle.std.proofs.Common.{◌≡◌, ℕ, ◌<◌, ◌≤◌, ◌&&◌, nat_le, List, [], ◌∷◌, length, All, true, Some, zero, suc, refl, subst, inl, inr, arith}
use Rattle.std.proofs.lemmas.Option.{same_Some}
use Rattle.std.proofs.lemmas.Bool.Decides.{nat_tests}
use Rattle.std.specs.List.{list_all}
use Rattle.flow_net.specs.Numbers.{item_at, IsNumberOf}
use Rattle.flow_net.specs.Scopes.{Holds, HasScopes, scopes_round}
use Rattle.flow_net.specs.Scopes.IsWithin.{out, here}
use Rattle.flow_net.specs.Paths.{IsRunPath}
use Rattle.flow_net.specs.Nested.{HasNumbers, IsEntered, HasRanks, IsBack, IsNested}
use Rattle.flow_net.specs.declared.net.Net.{Net}
use Rattle.flow_net.specs.declared.net.NetArc.{NetArc}
use Rattle.flow_net.specs.declared.net.Place.{Place}
use Rattle.flow_net.specs.declared.net.LoopInst.{LoopInst}
use Rattle.flow_net.specs.declared.net.Role.TheVariants.{Fetch}
use Rattle.flow_net.proofs.Within.{within-cases, within-next}
use Rattle.flow_net.proofs.Holds.{holds-zero, holds-place}
use Rattle.flow_net.proofs.OnLiterals.{all_passed}

abbrev loop_1 : LoopInst
loop_1 = record { header = 1; bound = 3; outer = 0 }

abbrev loop_2 : LoopInst
loop_2 = record { header = 2; bound = 4; outer = 1 }

abbrev arc_of : (from to : ℕ) → NetArc
arc_of from to = record { from = from; to = to }

abbrev place_of : (address scope : ℕ) → Place
place_of address scope = record { context = 0; address = address; scope = scope }

-- Place 1 is the header of loop 1, and place 2 that of loop 2, which lies within it.
abbrev pub two_loops : Net
two_loops =
    record {
      contexts = record { parent = 0; site = 0; target = 0x400000 } ∷ [];
      places = place_of 0x400000 1 ∷ place_of 0x400004 2 ∷ [];
      arcs = arc_of 0 1 ∷ arc_of 1 2 ∷ arc_of 2 2 ∷ arc_of 2 1 ∷ arc_of 1 0 ∷ [];
      loops = loop_1 ∷ loop_2 ∷ [];
      accesses = record { place = 2; role = Fetch; at = 0x400004 } ∷ [];
    }

-- What holds of each arc by its number holds of all.
arcs_are : (P : ℕ → NetArc → Type 0) → P 1 (arc_of 0 1) → P 2 (arc_of 1 2) → P 3 (arc_of 2 2) →
    P 4 (arc_of 2 1) → P 5 (arc_of 1 0) → (number : ℕ) (arc : NetArc) →
    item_at number two_loops.arcs ≡ Some arc → P number arc
arcs_are P a b c d e zero arc there = grind arith
arcs_are P a b c d e (suc zero) arc there = subst (P 1) (same_Some _ _ there) a
arcs_are P a b c d e (suc (suc zero)) arc there = subst (P 2) (same_Some _ _ there) b
arcs_are P a b c d e (suc (suc (suc zero))) arc there = subst (P 3) (same_Some _ _ there) c
arcs_are P a b c d e (suc (suc (suc (suc zero)))) arc there = subst (P 4) (same_Some _ _ there) d
arcs_are P a b c d e (suc (suc (suc (suc (suc zero))))) arc there =
    subst (P 5) (same_Some _ _ there) e
arcs_are P a b c d e (suc (suc (suc (suc (suc (suc more)))))) arc there = grind arith

-- The same of the loop instances.
loops_are : (P : ℕ → LoopInst → Type 0) → P 1 loop_1 → P 2 loop_2 → (scope : ℕ)
    (inst : LoopInst) → item_at scope two_loops.loops ≡ Some inst → P scope inst
loops_are P a b zero inst there = grind arith
loops_are P a b (suc zero) inst there = subst (P 1) (same_Some _ _ there) a
loops_are P a b (suc (suc zero)) inst there = subst (P 2) (same_Some _ _ there) b
loops_are P a b (suc (suc (suc more))) inst there = grind arith

one_holds_1 : Holds two_loops 1 1
one_holds_1 = record { place = place_of 0x400000 1; there = refl; within = here }

one_holds_2 : Holds two_loops 1 2
one_holds_2 = record { place = place_of 0x400004 2; there = refl; within = out 2 loop_2 refl here }

two_holds_2 : Holds two_loops 2 2
two_holds_2 = record { place = place_of 0x400004 2; there = refl; within = here }

two_lacks_1 : Holds two_loops 2 1 → ⊥
two_lacks_1 held =
    let outward = within-next two_loops.loops 2 1 loop_1 refl (λ e. omega (arith, e))
    (holds-place two_loops 2 1 (place_of 0x400000 1) refl held) in
    elim (within-cases two_loops.loops 2 0 outward) as (λ _. ⊥) [
      | inl e ↦ omega (arith, e)
      | inr below ↦ grind (arith, below.there)
    ]

numbers_of : {A B : Type 0} (items : List B) (f : A → ℕ) (xs : List A) →
    list_all (λ x. nat_le 1 (f x) && nat_le (f x) (length items)) xs ≡ true →
    All (λ x. IsNumberOf items (f x)) xs
numbers_of items f xs =
    all_passed (λ x. IsNumberOf items (f x))
    (λ x. nat_le 1 (f x) && nat_le (f x) (length items))
    (λ x h. record { from_one = grind (arith, nat_tests); within = grind (arith, nat_tests) })
    xs

at_most : {A : Type 0} (most : ℕ) (f : A → ℕ) (xs : List A) →
    list_all (λ x. nat_le (f x) most) xs ≡ true → All (λ x. f x ≤ most) xs
at_most most f xs =
    all_passed (λ x. f x ≤ most) (λ x. nat_le (f x) most) (λ x h. grind (arith, nat_tests)) xs

only_0 : {A : Type 0} (f : A → ℕ) (xs : List A) → list_all (λ x. nat_le (f x) 0) xs ≡ true →
    All (λ x. f x < 1) xs
only_0 f xs =
    all_passed (λ x. f x < 1) (λ x. nat_le (f x) 0) (λ x h. grind (arith, nat_tests)) xs

numbers_two : HasNumbers two_loops
numbers_two =
    record {
      parents = only_0 (λ context. context.parent) two_loops.contexts refl;
      contexts = only_0 (λ place. place.context) two_loops.places refl;
      starts = at_most 2 (λ arc. arc.from) two_loops.arcs refl;
      ends = at_most 2 (λ arc. arc.to) two_loops.arcs refl;
      headers = numbers_of two_loops.places (λ inst. inst.header) two_loops.loops refl;
      accesses = numbers_of two_loops.places (λ access. access.place) two_loops.accesses refl;
    }

scopes_two : HasScopes two_loops
scopes_two =
    record {
      places = at_most 2 (λ place. place.scope) two_loops.places refl;
      loops = at_most 2 (λ inst. inst.outer) two_loops.loops refl;
      chains = record {
        depth = λ scope. scope;
        falls = loops_are (λ scope inst. inst.outer < scope) (omega arith) (omega arith);
      };
    }

reached_two : (place : ℕ) → IsNumberOf two_loops.places place →
    (numbers : List ℕ) × IsRunPath two_loops.arcs numbers place
reached_two zero h = absurd (omega (arith, h.from_one))
reached_two (suc zero) h = (1 ∷ [], (refl, (arc_of 0 1, refl, refl, refl)))
reached_two (suc (suc zero)) h = (
  1 ∷ 2 ∷ [],
  (
    refl,
    (
      arc_of 0 1,
      refl,
      refl,
      (omega arith, (arc_of 1 2, refl, refl, refl)),
    ),
  ),
)
reached_two (suc (suc (suc more))) h = absurd (omega (arith, h.within))

entered_two : IsEntered two_loops
entered_two =
    record {
      first = (arc_of 0 1, refl, refl, omega arith);
      only = arcs_are (λ number arc. arc.from ≡ 0 → number ≡ 1) (λ _. refl)
          (λ e. absurd (omega (arith, e))) (λ e. absurd (omega (arith, e)))
          (λ e. absurd (omega (arith, e))) (λ e. absurd (omega (arith, e)));
      reached = reached_two;
    }

-- The scopes round each place, outermost first.
pub round_two : (scopes_round two_loops 1 ≡ 0 ∷ 1 ∷ []) × (scopes_round two_loops 2 ≡ 0 ∷ 1 ∷ 2 ∷ [])
round_two = (refl, refl)

-- The arcs into loop 1, and those into loop 2.
entering_1 : (number : ℕ) (arc : NetArc) → item_at number two_loops.arcs ≡ Some arc →
    Holds two_loops 1 arc.to → (Holds two_loops 1 arc.from → ⊥) → arc.to ≡ 1
entering_1 =
    arcs_are
    (λ number arc. Holds two_loops 1 arc.to → (Holds two_loops 1 arc.from → ⊥) → arc.to ≡ 1)
    (λ inside outside. refl)
    (λ inside outside. absurd (outside one_holds_1))
    (λ inside outside. absurd (outside one_holds_2))
    (λ inside outside. refl)
    (λ inside outside. absurd (holds-zero two_loops 1 inside))

entering_2 : (number : ℕ) (arc : NetArc) → item_at number two_loops.arcs ≡ Some arc →
    Holds two_loops 2 arc.to → (Holds two_loops 2 arc.from → ⊥) → arc.to ≡ 2
entering_2 =
    arcs_are
    (λ number arc. Holds two_loops 2 arc.to → (Holds two_loops 2 arc.from → ⊥) → arc.to ≡ 2)
    (λ inside outside. absurd (two_lacks_1 inside))
    (λ inside outside. refl)
    (λ inside outside. refl)
    (λ inside outside. absurd (two_lacks_1 inside))
    (λ inside outside. absurd (holds-zero two_loops 2 inside))

entering_two : (number scope : ℕ) (arc : NetArc) (inst : LoopInst) →
    item_at number two_loops.arcs ≡ Some arc → item_at scope two_loops.loops ≡ Some inst →
    Holds two_loops scope arc.to → (Holds two_loops scope arc.from → ⊥) → arc.to ≡ inst.header
entering_two number scope arc inst there also =
    loops_are
    (λ s i. Holds two_loops s arc.to → (Holds two_loops s arc.from → ⊥) → arc.to ≡ i.header)
    (entering_1 number arc there) (entering_2 number arc there) scope inst also

distinct_two : (scope other : ℕ) (inst another : LoopInst) →
    item_at scope two_loops.loops ≡ Some inst → item_at other two_loops.loops ≡ Some another →
    inst.header ≡ another.header → scope ≡ other
distinct_two scope other inst another there also =
    loops_are (λ s i. i.header ≡ another.header → s ≡ other)
    (loops_are (λ t j. 1 ≡ j.header → 1 ≡ t) (λ e. e) (λ e. e) other another also)
    (loops_are (λ t j. 2 ≡ j.header → 2 ≡ t) (λ e. e) (λ e. e) other another also)
    scope inst there

-- The numbers of places rise along the arcs 1 to 2, and the others between places are back arcs.
ranks_two : HasRanks two_loops
ranks_two =
    record {
      rank = λ place. place;
      rises = arcs_are
          (λ number arc. 0 < arc.from → 0 < arc.to → (IsBack two_loops arc → ⊥) →
          arc.from < arc.to)
          (λ from to other. absurd (omega (arith, from)))
          (λ from to other. omega arith)
          (λ from to other. absurd (other (record {
            scope = 2;
            inst = loop_2;
            there = refl;
            header = refl;
            held = two_holds_2;
          })))
          (λ from to other. absurd (other (record {
            scope = 1;
            inst = loop_1;
            there = refl;
            header = refl;
            held = one_holds_2;
          })))
          (λ from to other. absurd (omega (arith, to)));
    }

pub nested_two_loops : IsNested two_loops
nested_two_loops =
    record {
      numbers = numbers_two;
      scopes = scopes_two;
      entered = entered_two;
      left = (5, (arc_of 1 0, refl, refl));
      held = loops_are (λ scope inst. Holds two_loops scope inst.header) one_holds_1 two_holds_2;
      bounds = all_passed (λ inst. 1 ≤ inst.bound) (λ inst. nat_le 1 inst.bound)
          (λ inst h. grind (arith, nat_tests)) two_loops.loops refl;
      distinct = distinct_two;
      entering = entering_two;
      ranks = ranks_two;
    }
