-- Sets that were filled from nothing.
use Rattle.std.proofs.Common.{◌≡◌, ℕ, ◌<◌, Bool, true, false, List, [], sym, subst, inl, inr, if◌then◌else◌, Result, Ok, Err}
use Rattle.std.specs.Prelude.{AllPairs, Contains, IfOk}
use Rattle.std.specs.List.Sorted.{IsStrictlySortedBy}
use Rattle.std.specs.Ordering.{nat_cmp}
use Rattle.std.proofs.lemmas.Map.Keys.{below_from_sorted}
use Rattle.std.proofs.lemmas.List.Elements.{All-contains_itself, All-weaker}
use Rattle.code_units.specs.Sets.{IsSetOf}
use Rattle.code_units.proofs.Lists.{in_none}
use Rattle.unit_graph.specs.Graphs.{AreJust}
use Rattle.unit_graph.specs.Search.{Gains}

-- What an empty set gained.
pub IsSetOf-gained : (given xs none keys items : List ℕ) → none ≡ [] → IsStrictlySortedBy nat_cmp none →
    Gains (Contains xs) none keys → ((x : ℕ) → Contains xs x → Contains given x) →
    ((x : ℕ) → Contains given x → Contains xs x) → items ≡ keys → IsSetOf given items
IsSetOf-gained given xs none keys items empty sorted gains into back e =
    subst (IsSetOf given) (sym e) (record {
      rising = λ i j d less inside. below_from_sorted keys i j d (gains.rising sorted) less inside;
      sound = All-weaker (Contains keys) (Contains given) sound keys (All-contains_itself keys);
      whole = All-weaker (Contains given) (Contains keys) (λ x h. gains.there x (back x h)) given (All-contains_itself given);
    })
  where
    sound : (x : ℕ) → Contains keys x → Contains given x
    sound x h = elim (gains.only x h) [
      | inl p ↦ absurd (in_none x (subst (λ (ys : List ℕ). Contains ys x) empty p))
      | inr q ↦ into x q
    ]

-- A set that is empty where a test holds, and the other set where it doesn't.
pub IsSetOf-unless : (b : Bool) (xs ys : List ℕ) → b ≡ false → IsSetOf xs ys → IsSetOf (if b then [] else xs) ys
IsSetOf-unless true xs ys e set = cc
IsSetOf-unless false xs ys e set = set

pub IfOk-set : {E : Type 0} (xs ys : List ℕ) (result : Result (List ℕ) E) → IfOk result (λ (list : List ℕ). list ≡ ys) →
    IsSetOf xs ys → IfOk result (IsSetOf xs)
IfOk-set xs ys (Ok list) e set = subst (IsSetOf xs) (sym e) set
IfOk-set xs ys (Err error) e set = tt

-- The same where the numbers are said otherwise.
pub AreJust-gained : (these : ℕ → Type 0) (none keys items : List ℕ) → none ≡ [] → IsStrictlySortedBy nat_cmp none →
    Gains these none keys → items ≡ keys → AreJust these items
AreJust-gained these none keys items empty sorted gains e =
    subst (AreJust these) (sym e) (record {
      rising = λ i j d less inside. below_from_sorted keys i j d (gains.rising sorted) less inside;
      sound = λ x h. elim (gains.only x h) [
        | inl p ↦ absurd (in_none x (subst (λ (ys : List ℕ). Contains ys x) empty p))
        | inr q ↦ q
      ];
      whole = gains.there;
    })

-- The numbers of a rising list.
pub AreJust-rising : (numbers items : List ℕ) → AllPairs (λ (a b : ℕ). a < b) numbers → items ≡ numbers → AreJust (Contains numbers) items
AreJust-rising numbers items rising e =
    subst (AreJust (Contains numbers)) (sym e) (record { rising = rising; sound = λ x h. h; whole = λ x h. h })

pub AreJust-same : (these others : ℕ → Type 0) (items : List ℕ) → ((x : ℕ) → these x → others x) → ((x : ℕ) → others x → these x) →
    AreJust these items → AreJust others items
AreJust-same these others items into back are = record {
  rising = are.rising;
  sound = λ x h. into x (are.sound x h);
  whole = λ x h. are.whole x (back x h);
}

pub IfOk-just : {V E : Type 0} (items : V → List ℕ) (these : ℕ → Type 0) (none keys : List ℕ) (result : Result V E) →
    none ≡ [] → IsStrictlySortedBy nat_cmp none → Gains these none keys →
    IfOk result (λ (v : V). items v ≡ keys) → IfOk result (λ (v : V). AreJust these (items v))
IfOk-just items these none keys (Ok v) empty sorted gains e =
    AreJust-gained these none keys (items v) empty sorted gains e
IfOk-just items these none keys (Err error) empty sorted gains e = tt
