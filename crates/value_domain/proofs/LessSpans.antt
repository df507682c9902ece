-- Comparisons of spans: what they hold, and that they rise.
use Rattle.std.proofs.Common.{◌≡◌, ℕ, suc, ◌<◌, ◌≤◌, ◌+◌, ◌-◌, ◌%◌, ◌^◌, Bool, true, false, cond, ltb, leb, refl, sym, ap, subst, ◌∙◌, arith, inl, inr, pos, negsuc}
use Rattle.std.specs.Int.{w32, from_bool}
use Rattle.std.specs.Prelude.{int_lt}
use Rattle.std.proofs.lemmas.Bool.{cases_lt, cond_both, cond-true, cond-false, ltb-true, ltb-false, leb-true, lt-ltb, le-ltb, le-leb}
use Rattle.std.proofs.lemmas.Int.{to_z_pos}
use Rattle.mips_decode.specs.Arithmetic.{is_less, is_less_signed, signed}
use Rattle.value_domain.specs.Spans.{Span, IsStrided, Holds, single, between}
use Rattle.value_domain.specs.Results.{compared, compared_signed, turned}
use Rattle.value_domain.specs.OrderLemmas.{Under, under_same}
use Rattle.value_domain.proofs.Wholes.{strided_single, strided_between, holds_single, holds_between, between_above}
use Rattle.value_domain.proofs.AddedSpans.{strided_turned, holds_turned, turned_rises, single_turned}

-- ---- three answers

surely_less : (a b : Span) → a.hi < b.lo → compared a b ≡ single 1
unfolding compared
surely_less a b lt = cond-true (ltb a.hi b.lo) (single 1) (cond (leb b.hi a.lo) (single 0) (between 0 1)) (lt-ltb _ _ lt)

surely_not : (a b : Span) → b.lo ≤ a.hi → b.hi ≤ a.lo → compared a b ≡ single 0
unfolding compared
surely_not a b ge le =
    cond-false (ltb a.hi b.lo) (single 1) (cond (leb b.hi a.lo) (single 0) (between 0 1)) (le-ltb _ _ ge)
    ∙ cond-true (leb b.hi a.lo) (single 0) (between 0 1) (le-leb _ _ le)

-- Each of the three has what holds of each.
each_answer : (P : Span → Type 0) (a b : Span) → (a.hi < b.lo → P (single 1)) → (b.lo ≤ a.hi → b.hi ≤ a.lo → P (single 0)) → P (between 0 1) → P (compared a b)
unfolding compared
each_answer P a b yes1 no1 open1 =
    cond_both (ltb a.hi b.lo) (single 1) (cond (leb b.hi a.lo) (single 0) (between 0 1)) P
    (λ e. yes1 (ltb-true _ _ e))
    (λ e. cond_both (leb b.hi a.lo) (single 0) (between 0 1) P (λ f. no1 (ltb-false _ _ e) (leb-true _ _ f)) (λ _. open1))

bit_small : (t : Bool) → from_bool t ≤ 1
bit_small true = omega arith
bit_small false = omega arith

pub strided_compared : (a b : Span) → IsStrided (compared a b)
strided_compared a b =
    each_answer IsStrided a b (λ _. strided_single 1 (omega arith)) (λ _ _. strided_single 0 (omega arith)) (strided_between 0 1 (omega arith) (omega arith))

is_one : (x y : ℕ) → x < y → is_less x y ≡ 1
is_one x y lt = ap from_bool (lt-ltb x y lt)

is_zero : (x y : ℕ) → y ≤ x → is_less x y ≡ 0
is_zero x y le = ap from_bool (le-ltb x y le)

pub holds_compared : (a b : Span) (x y : ℕ) → Holds a x → Holds b y → Holds (compared a b) (is_less x y)
holds_compared a b x y h k =
    each_answer (λ (s : Span). Holds s (is_less x y)) a b
    (λ lt. subst (λ (n : ℕ). Holds (single 1) n) (sym (is_one x y (omega (arith, h.high, k.low)))) (holds_single 1))
    (λ _ le. subst (λ (n : ℕ). Holds (single 0) n) (sym (is_zero x y (omega (arith, h.low, k.high)))) (holds_single 0))
    (holds_between 0 1 (is_less x y) (omega arith) (bit_small (ltb x y)))

low_answer : (a b : Span) → 0 ≤ (compared a b).lo
low_answer a b = omega arith

high_answer : (a b : Span) → (compared a b).hi ≤ 1
high_answer a b = each_answer (λ (s : Span). s.hi ≤ 1) a b (λ _. omega arith) (λ _ _. omega arith) (omega arith)

pub compared_rises : (a b c d : Span) → IsStrided a → IsStrided b → Under a c → Under b d → Under (compared a b) (compared c d)
compared_rises a b c d p q u v =
    each_answer (λ (s : Span). Under (compared a b) s) c d
    (λ lt. subst (λ (s : Span). Under s (single 1)) (sym (surely_less a b (omega (arith, u.high, v.low)))) (under_same (single 1)))
    (λ _ le. subst (λ (s : Span). Under s (single 0)) (sym (surely_not a b (omega (arith, u.low, v.high, p.order, q.order)) (omega (arith, u.low, v.high)))) (under_same (single 0)))
    (between_above (compared a b) 0 1 (strided_compared a b) (low_answer a b) (high_answer a b))

pub single_compared : (x y : ℕ) → compared (single x) (single y) ≡ single (is_less x y)
single_compared x y = elim (cases_lt x y) [
  | inl lt ↦ surely_less (single x) (single y) lt ∙ ap single (sym (is_one x y lt))
  | inr le ↦ surely_not (single x) (single y) le le ∙ ap single (sym (is_zero x y le))
]

-- ---- signed numbers are in the order of the numbers moved by 2 ^ 31

pub signed_low : (x : ℕ) → x < 2 ^ 31 → signed x ≡ pos x
signed_low x lt = to_z_pos w32 x lt

pub signed_high : (x : ℕ) → 2 ^ 31 ≤ x → signed x ≡ negsuc (2 ^ 32 - suc x)
signed_high x le =
    let e : ltb x (2 ^ 31) ≡ false = le-ltb _ _ le in
    rw e refl

same_test : (a b c d : ℕ) → (a < b → c < d) → (b ≤ a → d ≤ c) → ltb a b ≡ ltb c d
same_test a b c d f g = elim (cases_lt a b) [
  | inl lt ↦ lt-ltb a b lt ∙ sym (lt-ltb c d (f lt))
  | inr le ↦ le-ltb a b le ∙ sym (le-ltb c d (g le))
]

signed_order : (x y : ℕ) → x < 2 ^ 32 → y < 2 ^ 32
    → int_lt (signed x) (signed y) ≡ ltb ((x + 2 ^ 31) % 2 ^ 32) ((y + 2 ^ 31) % 2 ^ 32)
signed_order x y p q = elim (cases_lt x (2 ^ 31)) [
  | inl a ↦ elim (cases_lt y (2 ^ 31)) [
    | inl b ↦ rw (signed_low x a, signed_low y b) (same_test x y _ _ (λ lt. omega arith) (λ le. omega arith))
    | inr b ↦ rw (signed_low x a, signed_high y b) (sym (le-ltb _ _ (omega arith)))
  ]
  | inr a ↦ elim (cases_lt y (2 ^ 31)) [
    | inl b ↦ rw (signed_high x a, signed_low y b) (sym (lt-ltb _ _ (omega arith)))
    | inr b ↦ rw (signed_high x a, signed_high y b) (same_test (2 ^ 32 - suc y) (2 ^ 32 - suc x) _ _ (λ lt. omega arith) (λ le. omega arith))
  ]
]

pub less_turned : (x y : ℕ) → x < 2 ^ 32 → y < 2 ^ 32
    → is_less_signed x y ≡ is_less ((x + 2 ^ 31) % 2 ^ 32) ((y + 2 ^ 31) % 2 ^ 32)
less_turned x y p q = ap from_bool (signed_order x y p q)

pub strided_compared_signed : (a b : Span) → IsStrided (compared_signed a b)
unfolding compared_signed
strided_compared_signed a b = strided_compared (turned a) (turned b)

pub holds_compared_signed : (a b : Span) (x y : ℕ) → IsStrided a → IsStrided b → Holds a x → Holds b y
    → Holds (compared_signed a b) (is_less_signed x y)
unfolding compared_signed
holds_compared_signed a b x y p q h k =
    subst (λ (n : ℕ). Holds (compared (turned a) (turned b)) n) (sym (less_turned x y (omega (arith, h.high, p.top)) (omega (arith, k.high, q.top))))
    (holds_compared (turned a) (turned b) _ _ (holds_turned a x h) (holds_turned b y k))

pub compared_signed_rises : (a b c d : Span) → IsStrided a → IsStrided b → Under a c → Under b d
    → Under (compared_signed a b) (compared_signed c d)
unfolding compared_signed
compared_signed_rises a b c d p q u v =
    compared_rises (turned a) (turned b) (turned c) (turned d) (strided_turned a p) (strided_turned b q) (turned_rises a c p u) (turned_rises b d q v)

pub single_compared_signed : (x y : ℕ) → x < 2 ^ 32 → y < 2 ^ 32 → compared_signed (single x) (single y) ≡ single (is_less_signed x y)
unfolding compared_signed
single_compared_signed x y p q =
    ap (λ (s : Span). compared s (turned (single y))) (single_turned x)
    ∙ ap (compared (single ((x + 2 ^ 31) % 2 ^ 32))) (single_turned y)
    ∙ single_compared _ _
    ∙ ap single (sym (less_turned x y p q))
