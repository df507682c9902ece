-- Each operation's span: what it holds, that it rises, and that of single numbers.
use Rattle.std.proofs.Common.{◌≡◌, ℕ, ◌<◌, ◌+◌, ◌-◌, ◌%◌, ◌^◌, true, ltb, Some, refl, sym, ap, subst, ◌∙◌, arith}
use Rattle.std.proofs.lemmas.Bool.{cond_both, cond-true, eqb-true, eq-eqb}
use Rattle.mips_decode.specs.declared.instr.Op3.{Op3}
use Rattle.mips_decode.specs.declared.instr.Op3.TheVariants.{Sllv, Srlv, Srav, Add, Addu, Sub, Subu, And, Or, Xor, Nor, Slt, Sltu}
use Rattle.mips_decode.specs.declared.instr.ShiftOp.{ShiftOp}
use Rattle.mips_decode.specs.declared.instr.ShiftOp.TheVariants.{Sll, Srl, Sra}
use Rattle.mips_decode.specs.declared.instr.ImmOp.{ImmOp}
use Rattle.mips_decode.specs.declared.instr.ImmOp.TheVariants.{Addi, Addiu, Slti, Sltiu, Andi, Ori, Xori}
use Rattle.mips_decode.specs.Arithmetic.{shift_value, three_value, imm_value, sign_extended}
use Rattle.value_domain.specs.Order.{leq}
use Rattle.value_domain.specs.Results.{shift_span, varied, three_span, imm_span, added, taken_from, anded, ored, xored, nored, compared, compared_signed, shifted_signed}
use Rattle.value_domain.specs.Spans.{Span, IsStrided, Holds, single, everything, is_single}
use Rattle.value_domain.specs.OrderLemmas.{Under, under, from_under, under_same, under_everything}
use Rattle.value_domain.proofs.Wholes.{strided_single, strided_everything, holds_single, holds_everything}
use Rattle.value_domain.proofs.AddedSpans.{strided_added, holds_added, added_rises, single_added, strided_taken, holds_taken, taken_rises, single_taken}
use Rattle.value_domain.proofs.BitSpans.{strided_anded, holds_anded, anded_rises, single_anded, strided_ored, holds_ored, ored_rises, single_ored, strided_xored, holds_xored, xored_rises, single_xored, strided_nored, holds_nored, nored_rises, single_nored}
use Rattle.value_domain.proofs.LessSpans.{strided_compared, holds_compared, compared_rises, single_compared, strided_compared_signed, holds_compared_signed, compared_signed_rises, single_compared_signed}
use Rattle.value_domain.proofs.ShiftedSpans.{strided_left, holds_left, left_rises, single_left, strided_right, holds_right, right_rises, single_right, strided_signed, holds_signed, signed_rises, single_signed}
use Rattle.value_domain.proofs.SignedValues.{sum_of, difference_of, shift_of}

-- What holds of a result holds of the number that is given as that result.
given : (P : ℕ → Type 0) (v n : ℕ) → P v → Some v ≡ Some n → P n
given P v n p e = let same : v ≡ n = cc in subst P same p

small : (a : Span) (x : ℕ) → IsStrided a → Holds a x → x < 2 ^ 32
small a x p h = omega (arith, h.high, p.top)

pub single_small : (a : Span) (x : ℕ) → IsStrided a → a ≡ single x → x < 2 ^ 32
single_small a x p e = let f : a.hi ≡ x = ap (λ (s : Span). s.hi) e in omega (arith, f, p.top)

-- ---- shifts

pub shift_strided : (op : ShiftOp) (a : Span) (by : ℕ) → IsStrided a → IsStrided (shift_span op a by)
shift_strided Sll a by p = strided_left a by p
shift_strided Srl a by p = strided_right a by p
shift_strided Sra a by p = strided_signed a by p

pub shift_holds : (op : ShiftOp) (a : Span) (by x : ℕ) → by < 32 → IsStrided a → Holds a x → Holds (shift_span op a by) (shift_value op x by)
shift_holds Sll a by x lt p h = holds_left a by x h
shift_holds Srl a by x lt p h = holds_right a by x h
shift_holds Sra a by x lt p h =
    subst (λ (n : ℕ). Holds (shifted_signed a by) n) (sym (shift_of x by (small a x p h) lt)) (holds_signed a by x h)

pub shift_single : (op : ShiftOp) (by x : ℕ) → by < 32 → x < 2 ^ 32 → shift_span op (single x) by ≡ single (shift_value op x by)
shift_single Sll by x lt p = single_left x by
shift_single Srl by x lt p = single_right x by
shift_single Sra by x lt p = single_signed x by ∙ ap single (sym (shift_of x by p lt))

under_shift : (op : ShiftOp) (a c : Span) (by : ℕ) → IsStrided a → Under a c → Under (shift_span op a by) (shift_span op c by)
under_shift Sll a c by p u = left_rises a c by p u
under_shift Srl a c by p u = right_rises a c by p u
under_shift Sra a c by p u = signed_rises a c by p u

pub shift_rises : (op : ShiftOp) (a c : Span) (by : ℕ) → IsStrided a → leq a c ≡ true → leq (shift_span op a by) (shift_span op c by) ≡ true
shift_rises op a c by p u = from_under _ _ (under_shift op a c by p (under a c u))

-- ---- shifts by the low bits of another span

varied_strided : (op : ShiftOp) (a b : Span) → IsStrided a → IsStrided (varied op a b)
unfolding varied
varied_strided op a b p =
    cond_both (is_single b) (shift_span op a (b.lo % 32)) everything IsStrided (λ _. shift_strided op a (b.lo % 32) p) (λ _. strided_everything)

varied_single : (op : ShiftOp) (a b : Span) → b.lo ≡ b.hi → varied op a b ≡ shift_span op a (b.lo % 32)
unfolding varied
varied_single op a b e = cond-true (is_single b) (shift_span op a (b.lo % 32)) everything (eq-eqb _ _ e)

shift_small : (op : ShiftOp) (x by : ℕ) → by < 32 → x < 2 ^ 32 → shift_value op x by < 2 ^ 32
shift_small op x by lt p =
    let s = shift_strided op (single x) by (strided_single x p) in
    let h = shift_holds op (single x) by x lt (strided_single x p) (holds_single x) in
    omega (arith, s.top, h.high)

varied_holds : (op : ShiftOp) (a b : Span) (x y : ℕ) → IsStrided a → Holds a x → Holds b y → Holds (varied op a b) (shift_value op x (y % 32))
unfolding varied
varied_holds op a b x y p h k =
    cond_both (is_single b) (shift_span op a (b.lo % 32)) everything (λ (s : Span). Holds s (shift_value op x (y % 32)))
    (λ e.
    let same : y ≡ b.lo = omega (arith, eqb-true _ _ e, k.low, k.high) in
    rw same (shift_holds op a (b.lo % 32) x (omega arith) p h))
    (λ _. holds_everything _ (shift_small op x (y % 32) (omega arith) (small a x p h)))

under_varied : (op : ShiftOp) (a b c d : Span) → IsStrided a → IsStrided b → Under a c → Under b d → Under (varied op a b) (varied op c d)
unfolding varied
under_varied op a b c d p q u v =
    cond_both (is_single d) (shift_span op c (d.lo % 32)) everything (λ (s : Span). Under (varied op a b) s)
    (λ e.
    let f : b.lo ≡ d.lo = omega (arith, eqb-true _ _ e, v.low, v.high, q.order) in
    let g : b.lo ≡ b.hi = omega (arith, eqb-true _ _ e, v.low, v.high, q.order) in
    let same : varied op a b ≡ shift_span op a (d.lo % 32) = varied_single op a b g ∙ ap (λ (n : ℕ). shift_span op a (n % 32)) f in
    subst (λ (s : Span). Under s (shift_span op c (d.lo % 32))) (sym same) (under_shift op a c (d.lo % 32) p u))
    (λ _. let s = varied_strided op a b p in under_everything (varied op a b) s.top)

single_varied : (op : ShiftOp) (x y : ℕ) → x < 2 ^ 32 → varied op (single x) (single y) ≡ single (shift_value op x (y % 32))
single_varied op x y p = varied_single op (single x) (single y) refl ∙ shift_single op (y % 32) x (omega arith) p

-- ---- operations on two registers

pub three_strided : (op : Op3) (a b : Span) → IsStrided a → IsStrided b → IsStrided (three_span op a b)
three_strided Sllv a b p q = varied_strided Sll b a q
three_strided Srlv a b p q = varied_strided Srl b a q
three_strided Srav a b p q = varied_strided Sra b a q
three_strided Add a b p q = strided_added a b p q
three_strided Addu a b p q = strided_added a b p q
three_strided Sub a b p q = strided_taken a b p q
three_strided Subu a b p q = strided_taken a b p q
three_strided And a b p q = strided_anded a b p q
three_strided Or a b p q = strided_ored a b p q
three_strided Xor a b p q = strided_xored a b p q
three_strided Nor a b p q = strided_nored a b p q
three_strided Slt a b p q = strided_compared_signed a b
three_strided Sltu a b p q = strided_compared a b

added_holds : (a b : Span) (x y n : ℕ) → Holds a x → Holds b y → n ≡ (x + y) % 2 ^ 32 → Holds (added a b) n
added_holds a b x y n h k e = subst (λ (m : ℕ). Holds (added a b) m) (sym e) (holds_added a b x y h k)

pub three_holds : (op : Op3) (a b : Span) (x y n : ℕ) → IsStrided a → IsStrided b → Holds a x → Holds b y
    → three_value op x y ≡ Some n → Holds (three_span op a b) n
three_holds Sllv a b x y n p q h k e = given (λ (m : ℕ). Holds (varied Sll b a) m) _ n (varied_holds Sll b a y x q k h) e
three_holds Srlv a b x y n p q h k e = given (λ (m : ℕ). Holds (varied Srl b a) m) _ n (varied_holds Srl b a y x q k h) e
three_holds Srav a b x y n p q h k e = given (λ (m : ℕ). Holds (varied Sra b a) m) _ n (varied_holds Sra b a y x q k h) e
three_holds Add a b x y n p q h k e = added_holds a b x y n h k (sum_of x y n (small a x p h) (small b y q k) e)
three_holds Addu a b x y n p q h k e = given (λ (m : ℕ). Holds (added a b) m) _ n (holds_added a b x y h k) e
three_holds Sub a b x y n p q h k e =
    subst (λ (m : ℕ). Holds (taken_from a b) m) (sym (difference_of x y n (small a x p h) (small b y q k) e)) (holds_taken a b x y q h k)
three_holds Subu a b x y n p q h k e = given (λ (m : ℕ). Holds (taken_from a b) m) _ n (holds_taken a b x y q h k) e
three_holds And a b x y n p q h k e = given (λ (m : ℕ). Holds (anded a b) m) _ n (holds_anded a b x y p h k) e
three_holds Or a b x y n p q h k e = given (λ (m : ℕ). Holds (ored a b) m) _ n (holds_ored a b x y p q h k) e
three_holds Xor a b x y n p q h k e = given (λ (m : ℕ). Holds (xored a b) m) _ n (holds_xored a b x y p q h k) e
three_holds Nor a b x y n p q h k e = given (λ (m : ℕ). Holds (nored a b) m) _ n (holds_nored a b x y p q h k) e
three_holds Slt a b x y n p q h k e = given (λ (m : ℕ). Holds (compared_signed a b) m) _ n (holds_compared_signed a b x y p q h k) e
three_holds Sltu a b x y n p q h k e = given (λ (m : ℕ). Holds (compared a b) m) _ n (holds_compared a b x y h k) e

same_single : (s : Span) (v n : ℕ) → s ≡ single v → Some v ≡ Some n → s ≡ single n
same_single s v n e f = given (λ (m : ℕ). s ≡ single m) v n e f

pub three_single : (op : Op3) (x y n : ℕ) → x < 2 ^ 32 → y < 2 ^ 32 → three_value op x y ≡ Some n
    → three_span op (single x) (single y) ≡ single n
three_single Sllv x y n p q e = same_single _ _ n (single_varied Sll y x q) e
three_single Srlv x y n p q e = same_single _ _ n (single_varied Srl y x q) e
three_single Srav x y n p q e = same_single _ _ n (single_varied Sra y x q) e
three_single Add x y n p q e = single_added x y ∙ ap single (sym (sum_of x y n p q e))
three_single Addu x y n p q e = same_single _ _ n (single_added x y) e
three_single Sub x y n p q e = single_taken x y ∙ ap single (sym (difference_of x y n p q e))
three_single Subu x y n p q e = same_single _ _ n (single_taken x y) e
three_single And x y n p q e = same_single _ _ n (single_anded x y) e
three_single Or x y n p q e = same_single _ _ n (single_ored x y) e
three_single Xor x y n p q e = same_single _ _ n (single_xored x y) e
three_single Nor x y n p q e = same_single _ _ n (single_nored x y) e
three_single Slt x y n p q e = same_single _ _ n (single_compared_signed x y p q) e
three_single Sltu x y n p q e = same_single _ _ n (single_compared x y) e

under_three : (op : Op3) (a b c d : Span) → IsStrided a → IsStrided b → IsStrided c → IsStrided d → Under a c → Under b d
    → Under (three_span op a b) (three_span op c d)
under_three Sllv a b c d p q r s u v = under_varied Sll b a d c q p v u
under_three Srlv a b c d p q r s u v = under_varied Srl b a d c q p v u
under_three Srav a b c d p q r s u v = under_varied Sra b a d c q p v u
under_three Add a b c d p q r s u v = added_rises a b c d p q u v
under_three Addu a b c d p q r s u v = added_rises a b c d p q u v
under_three Sub a b c d p q r s u v = taken_rises a b c d p q s u v
under_three Subu a b c d p q r s u v = taken_rises a b c d p q s u v
under_three And a b c d p q r s u v = anded_rises a b c d p q u v
under_three Or a b c d p q r s u v = ored_rises a b c d p q u v
under_three Xor a b c d p q r s u v = xored_rises a b c d p q u v
under_three Nor a b c d p q r s u v = nored_rises a b c d p q r s u v
under_three Slt a b c d p q r s u v = compared_signed_rises a b c d p q u v
under_three Sltu a b c d p q r s u v = compared_rises a b c d p q u v

pub three_rises : (op : Op3) (a b c d : Span) → IsStrided a → IsStrided b → IsStrided c → IsStrided d
    → leq a c ≡ true → leq b d ≡ true → leq (three_span op a b) (three_span op c d) ≡ true
three_rises op a b c d p q r s u v = from_under _ _ (under_three op a b c d p q r s (under a c u) (under b d v))

-- ---- operations on a register and an immediate

pub extended_small : (imm : ℕ) → imm < 2 ^ 16 → sign_extended imm < 2 ^ 32
extended_small imm lt = cond_both (ltb imm (2 ^ 15)) imm (imm + (2 ^ 32 - 2 ^ 16)) (λ (n : ℕ). n < 2 ^ 32) (λ _. omega arith) (λ _. omega arith)

extended : (imm : ℕ) → imm < 2 ^ 16 → IsStrided (single (sign_extended imm))
extended imm lt = strided_single (sign_extended imm) (extended_small imm lt)

unextended : (imm : ℕ) → imm < 2 ^ 16 → IsStrided (single imm)
unextended imm lt = strided_single imm (omega arith)

pub imm_strided : (op : ImmOp) (a : Span) (imm : ℕ) → imm < 2 ^ 16 → IsStrided a → IsStrided (imm_span op a imm)
imm_strided Addi a imm lt p = strided_added a _ p (extended imm lt)
imm_strided Addiu a imm lt p = strided_added a _ p (extended imm lt)
imm_strided Slti a imm lt p = strided_compared_signed a _
imm_strided Sltiu a imm lt p = strided_compared a _
imm_strided Andi a imm lt p = strided_anded a _ p (unextended imm lt)
imm_strided Ori a imm lt p = strided_ored a _ p (unextended imm lt)
imm_strided Xori a imm lt p = strided_xored a _ p (unextended imm lt)

pub imm_holds : (op : ImmOp) (a : Span) (imm x n : ℕ) → imm < 2 ^ 16 → IsStrided a → Holds a x
    → imm_value op x imm ≡ Some n → Holds (imm_span op a imm) n
imm_holds Addi a imm x n lt p h e = added_holds a _ x (sign_extended imm) n h (holds_single _) (sum_of x (sign_extended imm) n (small a x p h) (extended_small imm lt) e)
imm_holds Addiu a imm x n lt p h e = given (λ (m : ℕ). Holds (added a (single (sign_extended imm))) m) _ n (holds_added a _ x (sign_extended imm) h (holds_single _)) e
imm_holds Slti a imm x n lt p h e = given (λ (m : ℕ). Holds (compared_signed a (single (sign_extended imm))) m) _ n (holds_compared_signed a _ x (sign_extended imm) p (extended imm lt) h (holds_single _)) e
imm_holds Sltiu a imm x n lt p h e = given (λ (m : ℕ). Holds (compared a (single (sign_extended imm))) m) _ n (holds_compared a _ x (sign_extended imm) h (holds_single _)) e
imm_holds Andi a imm x n lt p h e = given (λ (m : ℕ). Holds (anded a (single imm)) m) _ n (holds_anded a _ x imm p h (holds_single _)) e
imm_holds Ori a imm x n lt p h e = given (λ (m : ℕ). Holds (ored a (single imm)) m) _ n (holds_ored a _ x imm p (unextended imm lt) h (holds_single _)) e
imm_holds Xori a imm x n lt p h e = given (λ (m : ℕ). Holds (xored a (single imm)) m) _ n (holds_xored a _ x imm p (unextended imm lt) h (holds_single _)) e

pub imm_single : (op : ImmOp) (imm x n : ℕ) → imm < 2 ^ 16 → x < 2 ^ 32 → imm_value op x imm ≡ Some n → imm_span op (single x) imm ≡ single n
imm_single Addi imm x n lt p e = single_added x (sign_extended imm) ∙ ap single (sym (sum_of x (sign_extended imm) n p (extended_small imm lt) e))
imm_single Addiu imm x n lt p e = same_single _ _ n (single_added x (sign_extended imm)) e
imm_single Slti imm x n lt p e = same_single _ _ n (single_compared_signed x (sign_extended imm) p (extended_small imm lt)) e
imm_single Sltiu imm x n lt p e = same_single _ _ n (single_compared x (sign_extended imm)) e
imm_single Andi imm x n lt p e = same_single _ _ n (single_anded x imm) e
imm_single Ori imm x n lt p e = same_single _ _ n (single_ored x imm) e
imm_single Xori imm x n lt p e = same_single _ _ n (single_xored x imm) e

under_imm : (op : ImmOp) (a c : Span) (imm : ℕ) → imm < 2 ^ 16 → IsStrided a → Under a c → Under (imm_span op a imm) (imm_span op c imm)
under_imm Addi a c imm lt p u = added_rises a _ c _ p (extended imm lt) u (under_same _)
under_imm Addiu a c imm lt p u = added_rises a _ c _ p (extended imm lt) u (under_same _)
under_imm Slti a c imm lt p u = compared_signed_rises a _ c _ p (extended imm lt) u (under_same _)
under_imm Sltiu a c imm lt p u = compared_rises a _ c _ p (extended imm lt) u (under_same _)
under_imm Andi a c imm lt p u = anded_rises a _ c _ p (unextended imm lt) u (under_same _)
under_imm Ori a c imm lt p u = ored_rises a _ c _ p (unextended imm lt) u (under_same _)
under_imm Xori a c imm lt p u = xored_rises a _ c _ p (unextended imm lt) u (under_same _)

pub imm_rises : (op : ImmOp) (a c : Span) (imm : ℕ) → imm < 2 ^ 16 → IsStrided a → leq a c ≡ true → leq (imm_span op a imm) (imm_span op c imm) ≡ true
imm_rises op a c imm lt p u = from_under _ _ (under_imm op a c imm lt p (under a c u))
