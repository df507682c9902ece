-- How many arcs come from each place, counted one arc after the other, and where arcs lie.
use Rattle.std.proofs.Common.{◌≡◌, ℕ, zero, suc, ◌+◌, ◌-◌, ◌<◌, ◌≤◌, ◌==◌, Bool, true, false, List, length, get_or, Option, Some, sym, ap, ◌∙◌, subst, inl, inr, arith}
use Rattle.std.proofs.lemmas.Bool.{cases_eq}
use Rattle.std.proofs.lemmas.Bool.Decides.{nat_tests}
use Rattle.flow_net.specs.Numbers.{item_at, IsNumberOrZero}
use Rattle.flow_net.specs.Visits.{target_of}
use Rattle.flow_net.specs.Nested.{IsNested}
use Rattle.flow_net.specs.declared.net.Net.{Net}
use Rattle.flow_net.specs.declared.net.NetArc.{NetArc}
use Rattle.flow_net.proofs.Numbers.{item_at-all, item_at-there}
use Rattle.ipet_program.specs.Sums.{sum_to}
use Rattle.nest_solver.specs.Counted.{bit}
use Rattle.nest_solver.specs.Groups.{AreGrouped}
use Rattle.nest_solver.specs.Nets.{source_of}
use Rattle.nest_solver.specs.Orders.{AreLeft}
use Rattle.nest_solver.specs.Shape.{IsUpTo}
use Rattle.nest_solver.proofs.Puts.{Puts}

no_arc : NetArc
no_arc = record { from = 0; to = 0 }

arc_at : (arcs : List NetArc) (i : ℕ) → IsUpTo (length arcs) i → item_at i arcs ≡ Some (get_or arcs (i - 1) no_arc)
arc_at arcs i up = item_at-there arcs i no_arc (record { from_one = up.0; within = up.1 })

pub source-within : (net : Net) → IsNested net → (i : ℕ) → IsUpTo (length net.arcs) i →
    source_of (item_at i net.arcs) ≤ length net.places
source-within net nested i up =
    let there = arc_at net.arcs i up in
    subst (λ (found : Option NetArc). source_of found ≤ length net.places) (sym there)
    (item_at-all (λ (arc : NetArc). IsNumberOrZero net.places arc.from) net.arcs i (get_or net.arcs (i - 1) no_arc)
    nested.numbers.starts there)

pub target-within : (net : Net) → IsNested net → (i : ℕ) → IsUpTo (length net.arcs) i →
    target_of (item_at i net.arcs) ≤ length net.places
target-within net nested i up =
    let there = arc_at net.arcs i up in
    subst (λ (found : Option NetArc). target_of found ≤ length net.places) (sym there)
    (item_at-all (λ (arc : NetArc). IsNumberOrZero net.places arc.to) net.arcs i (get_or net.arcs (i - 1) no_arc)
    nested.numbers.ends there)

sum_bits : (n : ℕ) (test : ℕ → Bool) → sum_to n (λ i. bit (test i)) ≤ n
sum_bits zero test = omega arith
sum_bits (suc n) test = omega (arith, sum_bits n test, one (test (suc n)))
  where
    one : (b : Bool) → bit b ≤ 1
    one true = omega arith
    one false = omega arith

pub left-small : (net : Net) (left : ℕ → ℕ) (n p : ℕ) → AreLeft net left n → left p ≤ n
left-small net left n p counted = elim (cases_eq p 0) as (λ _. left p ≤ n) [
  | inl e ↦ omega (arith, ap left e, counted.zero)
  | inr some ↦ omega (
    arith,
    counted.counts p (omega (arith, some)),
    sum_bits n (λ i. source_of (item_at i net.arcs) == p),
  )
]

bit_one : (a b : ℕ) → a ≡ b → bit (a == b) ≡ 1
bit_one a b e = grind (arith, nat_tests)

bit_zero : (a b : ℕ) → (a ≡ b → ⊥) → bit (a == b) ≡ 0
bit_zero a b e = grind (arith, nat_tests)

pub left-none : (net : Net) (left : ℕ → ℕ) → ((p : ℕ) → left p ≡ 0) → AreLeft net left 0
left-none net left fresh = record { counts = λ p some. fresh p; zero = fresh 0 }

left_more : (net : Net) (left left2 : ℕ → ℕ) (n : ℕ) → AreLeft net left n →
    0 < source_of (item_at (suc n) net.arcs) →
    Puts left left2 (source_of (item_at (suc n) net.arcs)) (left (source_of (item_at (suc n) net.arcs)) + 1) →
    AreLeft net left2 (suc n)
left_more net left left2 n was some puts =
    let from = source_of (item_at (suc n) net.arcs) in
    record {
      counts = λ p low. elim (cases_eq from p)
          as (λ _. left2 p ≡ sum_to (suc n) (λ i. bit (source_of (item_at i net.arcs) == p))) [
            | inl e ↦ omega (arith, ap left2 e, ap left e, puts.here, was.counts p low, bit_one from p e)
            | inr differ ↦ omega (
              arith,
              puts.others p (λ is. differ (sym is)),
              was.counts p low,
              bit_zero from p differ,
            )
          ];
      zero = puts.others 0 (λ is. omega (arith, is, some)) ∙ was.zero;
    }

left_pass : (net : Net) (left : ℕ → ℕ) (n : ℕ) → AreLeft net left n → source_of (item_at (suc n) net.arcs) ≡ 0 →
    AreLeft net left (suc n)
left_pass net left n was none = record {
  counts = λ p low. omega (
    arith,
    was.counts p low,
    bit_zero (source_of (item_at (suc n) net.arcs)) p (λ is. omega (arith, is, none, low)),
  );
  zero = was.zero;
}

pub left-more : (net : Net) (left left2 : ℕ → ℕ) (i from : ℕ) → 1 ≤ i → AreLeft net left (i - 1) →
    from ≡ source_of (item_at i net.arcs) → 0 < from → Puts left left2 from (left from + 1) → AreLeft net left2 i
left-more net left left2 i from up was e some puts =
    subst (λ (k : ℕ). AreLeft net left2 k) back
    (left_more net left left2 (i - 1) was (omega (arith, same, some))
    (subst (λ (p : ℕ). Puts left left2 p (left p + 1)) (omega (arith, same)) puts))
  where
    back : suc (i - 1) ≡ i
    back = omega (arith, up)

    same : source_of (item_at (suc (i - 1)) net.arcs) ≡ from
    same = ap (λ (k : ℕ). source_of (item_at k net.arcs)) back ∙ sym e

pub left-pass : (net : Net) (left : ℕ → ℕ) (i from : ℕ) → 1 ≤ i → AreLeft net left (i - 1) →
    from ≡ source_of (item_at i net.arcs) → from ≡ 0 → AreLeft net left i
left-pass net left i from up was e none =
    subst (λ (k : ℕ). AreLeft net left k) back
    (left_pass net left (i - 1) was (ap (λ (k : ℕ). source_of (item_at k net.arcs)) back ∙ sym e ∙ none))
  where
    back : suc (i - 1) ≡ i
    back = omega (arith, up)

-- Chains by one key are chains by another one that tells the same.
pub grouped-same : (key other : ℕ → ℕ) (high : ℕ) (first next : ℕ → ℕ) → AreGrouped key high first next →
    ((i : ℕ) → 0 < i → i < high → key i ≡ other i) → AreGrouped other high first next
grouped-same key other high first next were same = record {
  first_low = were.first_low;
  first_key = λ k some. sym (same (first k) some (were.first_low k some)) ∙ were.first_key k some;
  first_most = λ i some low. omega (arith, were.first_most i some low, ap first (same i some low));
  next_less = were.next_less;
  next_key = λ i some low more.
      let less = were.next_less i some low in
      sym (same (next i) more (omega (arith, less, low))) ∙ were.next_key i some low more ∙ same i some low;
  next_most = λ i j some low more less is.
      were.next_most i j some low more less
      (same j more (omega (arith, less, low)) ∙ is ∙ sym (same i some low));
}
