-- Operations bit by bit on spans: what they hold, and that they rise.
use Rattle.std.proofs.Common.{◌≡◌, ℕ, ◌<◌, ◌≤◌, ◌+◌, ◌-◌, ◌^◌, ◌&&◌, true, min, max, refl, sym, ap, subst, ◌∙◌, arith}
use Rattle.std.specs.Prelude.{bit_and, bit_or, bit_xor}
use Rattle.std.specs.Int.Bits.{or_add_and, xor_add_and}
use Rattle.std.proofs.lemmas.Bool.{cond_both, cond-true, eqb-true, eq-eqb, and_parts, and_from}
use Rattle.std.proofs.lemmas.Nat.{and_le_l, and_le_r, le_or_l, le_or_r, or_of_32, xor_of_32}
use Rattle.std.proofs.lemmas.Nat.Gcd.{dvd-zero, dvd_trans, mod-eq-zero_of_dvd}
use Rattle.std.proofs.Math.Nat.{dvd-sub}
use Rattle.value_domain.specs.Spans.{Span, IsStrided, Holds, single, between, is_single}
use Rattle.value_domain.specs.Results.{exact_or, anded, ored, xored, inverted, nored}
use Rattle.value_domain.specs.OrderLemmas.{Under, under_same, on_step, step_whole}
use Rattle.value_domain.proofs.Wholes.{strided_single, strided_between, holds_single, holds_between, between_above}

-- ---- exact for one number each, else between two ends

pub holds_lo : (a : Span) → IsStrided a → Holds a a.lo
holds_lo a p =
    let e : a.lo - a.lo ≡ 0 = omega arith in
    record { low = omega arith; high = p.order; on = rw e (mod-eq-zero_of_dvd _ (dvd-zero a.step)) }

-- The results of held numbers lie between two ends.
record LieBetween (value : ℕ → ℕ → ℕ) (a b : Span) (lo hi : ℕ) : Type 0 where
  top : hi < 2 ^ 32
  low : (x y : ℕ) → Holds a x → Holds b y → lo ≤ value x y
  high : (x y : ℕ) → Holds a x → Holds b y → value x y ≤ hi

both_single : (a b : Span) → (is_single a && is_single b) ≡ true → (a.lo ≡ a.hi) × (b.lo ≡ b.hi)
both_single a b e =
    let p = and_parts _ _ e in
    (eqb-true _ _ p.0, eqb-true _ _ p.1)

strided_bits : (value : ℕ → ℕ → ℕ) (a b : Span) (lo hi : ℕ) → IsStrided a → IsStrided b → LieBetween value a b lo hi
    → IsStrided (exact_or value a b (between lo hi))
strided_bits value a b lo hi p q l =
    let low = l.low a.lo b.lo (holds_lo a p) (holds_lo b q) in
    let high = l.high a.lo b.lo (holds_lo a p) (holds_lo b q) in
    cond_both (is_single a && is_single b) (single (value a.lo b.lo)) (between lo hi) IsStrided
    (λ _. strided_single _ (omega (arith, high, l.top)))
    (λ _. strided_between lo hi (omega (arith, low, high)) l.top)

holds_bits : (value : ℕ → ℕ → ℕ) (a b : Span) (lo hi x y : ℕ) → LieBetween value a b lo hi → Holds a x → Holds b y
    → Holds (exact_or value a b (between lo hi)) (value x y)
holds_bits value a b lo hi x y l h k =
    cond_both (is_single a && is_single b) (single (value a.lo b.lo)) (between lo hi) (λ (s : Span). Holds s (value x y))
    (λ e.
    let both = both_single a b e in
    let f : x ≡ a.lo = omega (arith, both.0, h.low, h.high) in
    let g : y ≡ b.lo = omega (arith, both.1, k.low, k.high) in
    rw (f, g) (holds_single (value a.lo b.lo)))
    (λ _. holds_between lo hi (value x y) (l.low x y h k) (l.high x y h k))

bits_low : (value : ℕ → ℕ → ℕ) (a b : Span) (lo hi : ℕ) → IsStrided a → IsStrided b → LieBetween value a b lo hi
    → lo ≤ (exact_or value a b (between lo hi)).lo
bits_low value a b lo hi p q l =
    cond_both (is_single a && is_single b) (single (value a.lo b.lo)) (between lo hi) (λ (s : Span). lo ≤ s.lo)
    (λ _. l.low a.lo b.lo (holds_lo a p) (holds_lo b q)) (λ _. omega arith)

bits_high : (value : ℕ → ℕ → ℕ) (a b : Span) (lo hi : ℕ) → IsStrided a → IsStrided b → LieBetween value a b lo hi
    → (exact_or value a b (between lo hi)).hi ≤ hi
bits_high value a b lo hi p q l =
    cond_both (is_single a && is_single b) (single (value a.lo b.lo)) (between lo hi) (λ (s : Span). s.hi ≤ hi)
    (λ _. l.high a.lo b.lo (holds_lo a p) (holds_lo b q)) (λ _. omega arith)

pub single_bits : (value : ℕ → ℕ → ℕ) (a b bounds : Span) → a.lo ≡ a.hi → b.lo ≡ b.hi → exact_or value a b bounds ≡ single (value a.lo b.lo)
single_bits value a b bounds e f =
    cond-true (is_single a && is_single b) (single (value a.lo b.lo)) bounds (and_from _ _ (eq-eqb _ _ e) (eq-eqb _ _ f))

bits_rise : (value : ℕ → ℕ → ℕ) (a b c d : Span) (lo hi low high : ℕ) → IsStrided a → IsStrided b → Under a c → Under b d
    → LieBetween value a b lo hi → low ≤ lo → hi ≤ high
    → Under (exact_or value a b (between lo hi)) (exact_or value c d (between low high))
bits_rise value a b c d lo hi low high p q u v l le ge =
    cond_both (is_single c && is_single d) (single (value c.lo d.lo)) (between low high) (λ (s : Span). Under (exact_or value a b (between lo hi)) s)
    (λ e.
    let both = both_single c d e in
    let f : a.lo ≡ c.lo = omega (arith, both.0, u.low, u.high, p.order) in
    let g : b.lo ≡ d.lo = omega (arith, both.1, v.low, v.high, q.order) in
    let same : exact_or value a b (between lo hi) ≡ single (value c.lo d.lo) =
    single_bits value a b (between lo hi) (omega (arith, both.0, u.low, u.high, p.order)) (omega (arith, both.1, v.low, v.high, q.order))
    ∙ ap (λ (n : ℕ). single (value n b.lo)) f ∙ ap (λ (n : ℕ). single (value c.lo n)) g in
    subst (λ (s : Span). Under s (single (value c.lo d.lo))) (sym same) (under_same _))
    (λ _.
    between_above (exact_or value a b (between lo hi)) low high (strided_bits value a b lo hi p q l)
    (omega (arith, bits_low value a b lo hi p q l)) (omega (arith, bits_high value a b lo hi p q l)))

-- ---- the ends of each

and_between : (a b : Span) → IsStrided a → LieBetween bit_and a b 0 (min a.hi b.hi)
and_between a b p = record {
  top = omega (arith, p.top);
  low = λ x y h k. omega arith;
  high = λ x y h k. omega (arith, and_le_l x y, and_le_r x y, h.high, k.high);
}

or_between : (a b : Span) → IsStrided a → IsStrided b → LieBetween bit_or a b (max a.lo b.lo) (min (a.hi + b.hi) (2 ^ 32 - 1))
or_between a b p q = record {
  top = omega arith;
  low = λ x y h k. omega (arith, le_or_l x y, le_or_r x y, h.low, k.low);
  high = λ x y h k.
      let s : bit_or x y < 2 ^ 32 = or_of_32 x y (omega (arith, h.high, p.top)) (omega (arith, k.high, q.top)) in
      omega (arith, or_add_and x y, h.high, k.high);
}

xor_between : (a b : Span) → IsStrided a → IsStrided b → LieBetween bit_xor a b 0 (min (a.hi + b.hi) (2 ^ 32 - 1))
xor_between a b p q = record {
  top = omega arith;
  low = λ x y h k. omega arith;
  high = λ x y h k.
      let s : bit_xor x y < 2 ^ 32 = xor_of_32 x y (omega (arith, h.high, p.top)) (omega (arith, k.high, q.top)) in
      omega (arith, xor_add_and x y, h.high, k.high);
}

-- ---- and

pub strided_anded : (a b : Span) → IsStrided a → IsStrided b → IsStrided (anded a b)
unfolding anded
strided_anded a b p q = strided_bits bit_and a b _ _ p q (and_between a b p)

pub holds_anded : (a b : Span) (x y : ℕ) → IsStrided a → Holds a x → Holds b y → Holds (anded a b) (bit_and x y)
unfolding anded
holds_anded a b x y p h k = holds_bits bit_and a b _ _ x y (and_between a b p) h k

pub anded_rises : (a b c d : Span) → IsStrided a → IsStrided b → Under a c → Under b d → Under (anded a b) (anded c d)
unfolding anded
anded_rises a b c d p q u v =
    bits_rise bit_and a b c d 0 (min a.hi b.hi) 0 (min c.hi d.hi) p q u v (and_between a b p) (omega arith) (omega (arith, u.high, v.high))

pub single_anded : (x y : ℕ) → anded (single x) (single y) ≡ single (bit_and x y)
unfolding anded
single_anded x y = single_bits bit_and (single x) (single y) _ refl refl

-- ---- or

pub strided_ored : (a b : Span) → IsStrided a → IsStrided b → IsStrided (ored a b)
unfolding ored
strided_ored a b p q = strided_bits bit_or a b _ _ p q (or_between a b p q)

pub holds_ored : (a b : Span) (x y : ℕ) → IsStrided a → IsStrided b → Holds a x → Holds b y → Holds (ored a b) (bit_or x y)
unfolding ored
holds_ored a b x y p q h k = holds_bits bit_or a b _ _ x y (or_between a b p q) h k

pub ored_rises : (a b c d : Span) → IsStrided a → IsStrided b → Under a c → Under b d → Under (ored a b) (ored c d)
unfolding ored
ored_rises a b c d p q u v =
    bits_rise bit_or a b c d (max a.lo b.lo) (min (a.hi + b.hi) (2 ^ 32 - 1)) (max c.lo d.lo) (min (c.hi + d.hi) (2 ^ 32 - 1))
    p q u v (or_between a b p q) (omega (arith, u.low, v.low)) (omega (arith, u.high, v.high))

pub single_ored : (x y : ℕ) → ored (single x) (single y) ≡ single (bit_or x y)
unfolding ored
single_ored x y = single_bits bit_or (single x) (single y) _ refl refl

-- ---- exclusive or

pub strided_xored : (a b : Span) → IsStrided a → IsStrided b → IsStrided (xored a b)
unfolding xored
strided_xored a b p q = strided_bits bit_xor a b _ _ p q (xor_between a b p q)

pub holds_xored : (a b : Span) (x y : ℕ) → IsStrided a → IsStrided b → Holds a x → Holds b y → Holds (xored a b) (bit_xor x y)
unfolding xored
holds_xored a b x y p q h k = holds_bits bit_xor a b _ _ x y (xor_between a b p q) h k

pub xored_rises : (a b c d : Span) → IsStrided a → IsStrided b → Under a c → Under b d → Under (xored a b) (xored c d)
unfolding xored
xored_rises a b c d p q u v =
    bits_rise bit_xor a b c d 0 (min (a.hi + b.hi) (2 ^ 32 - 1)) 0 (min (c.hi + d.hi) (2 ^ 32 - 1))
    p q u v (xor_between a b p q) (omega arith) (omega (arith, u.high, v.high))

pub single_xored : (x y : ℕ) → xored (single x) (single y) ≡ single (bit_xor x y)
unfolding xored
single_xored x y = single_bits bit_xor (single x) (single y) _ refl refl

-- ---- each bit turned over

strided_inverted : (a : Span) → IsStrided a → IsStrided (inverted a)
unfolding inverted
strided_inverted a p =
    let e : (2 ^ 32 - 1 - a.lo) - (2 ^ 32 - 1 - a.hi) ≡ a.hi - a.lo = omega (arith, p.top, p.order) in
    record {
      order = omega (arith, p.order);
      top = omega arith;
      whole = rw e p.whole;
      one = λ f. p.one (omega (arith, f, p.top, p.order));
    }

holds_inverted : (a : Span) (x : ℕ) → IsStrided a → Holds a x → Holds (inverted a) (2 ^ 32 - 1 - x)
unfolding inverted
holds_inverted a x p h =
    let e : (2 ^ 32 - 1 - x) - (2 ^ 32 - 1 - a.hi) ≡ (a.hi - a.lo) - (x - a.lo) = omega (arith, p.top, h.low, h.high) in
    record {
      low = omega (arith, h.high);
      high = omega (arith, h.low);
      on = rw e (mod-eq-zero_of_dvd a.step (dvd-sub a.step (step_whole a p) (on_step a x h)));
    }

inverted_rises : (a c : Span) → IsStrided a → IsStrided c → Under a c → Under (inverted a) (inverted c)
unfolding inverted
inverted_rises a c p q u =
    let e : (2 ^ 32 - 1 - a.hi) - (2 ^ 32 - 1 - c.hi) ≡ ((c.hi - c.lo) - (a.hi - a.lo)) - (a.lo - c.lo) = omega (arith, p.top, q.top, p.order, q.order, u.low, u.high) in
    record {
      low = omega (arith, u.high);
      high = omega (arith, u.low);
      start = rw e (dvd-sub c.step (dvd-sub c.step (step_whole c q) (dvd_trans _ u.step (step_whole a p))) u.start);
      step = u.step;
    }

pub strided_nored : (a b : Span) → IsStrided a → IsStrided b → IsStrided (nored a b)
unfolding nored
strided_nored a b p q = strided_inverted (ored a b) (strided_ored a b p q)

pub holds_nored : (a b : Span) (x y : ℕ) → IsStrided a → IsStrided b → Holds a x → Holds b y → Holds (nored a b) (2 ^ 32 - 1 - bit_or x y)
unfolding nored
holds_nored a b x y p q h k = holds_inverted (ored a b) (bit_or x y) (strided_ored a b p q) (holds_ored a b x y p q h k)

pub nored_rises : (a b c d : Span) → IsStrided a → IsStrided b → IsStrided c → IsStrided d → Under a c → Under b d → Under (nored a b) (nored c d)
unfolding nored
nored_rises a b c d p q r s u v =
    inverted_rises (ored a b) (ored c d) (strided_ored a b p q) (strided_ored c d r s) (ored_rises a b c d p q u v)

pub single_nored : (x y : ℕ) → nored (single x) (single y) ≡ single (2 ^ 32 - 1 - bit_or x y)
unfolding nored inverted
single_nored x y = ap inverted (single_ored x y)
