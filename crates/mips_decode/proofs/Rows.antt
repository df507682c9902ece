-- Each instruction that the decoder finds stands in the table at its word.
use Rattle.std.proofs.Common.{◌≡◌, ℕ, ◌/◌, ◌%◌, ◌^◌, ◌<◌, ◌==◌, ◌&&◌, true, false, refl, arith}
use Rattle.std.specs.Prelude.{IfSome}
use Rattle.std.proofs.lemmas.Bool.{eqb-true}
use Rattle.std.proofs.lemmas.Bool.Decides.{Decides-and, Decides-eqb}
use Rattle.mips_decode.specs.declared.instr.Op3.{Op3}
use Rattle.mips_decode.specs.declared.instr.ShiftOp.{ShiftOp}
use Rattle.mips_decode.specs.declared.instr.HiLoOp.{HiLoOp}
use Rattle.mips_decode.specs.declared.instr.HiLoOp.TheVariants.{Mfhi, Mthi, Mflo, Mtlo}
use Rattle.mips_decode.specs.declared.instr.MulOp.{MulOp}
use Rattle.mips_decode.specs.declared.instr.ImmOp.{ImmOp}
use Rattle.mips_decode.specs.declared.instr.LoadOp.{LoadOp}
use Rattle.mips_decode.specs.declared.instr.StoreOp.{StoreOp}
use Rattle.mips_decode.specs.declared.instr.BranchOp.TheVariants.{Beq, Bne, Blez, Bgtz, Bltz, Bgez, Bltzal, Bgezal}
use Rattle.mips_decode.specs.declared.instr.StopOp.{StopOp}
use Rattle.mips_decode.specs.declared.instr.Instr.TheVariants.{Jump, Stop}
use Rattle.mips_decode.specs.Table.{three_number, three_ops, shift_number, shift_ops, hi_lo_number, hi_lo_ops, mul_number, mul_ops, stop_number, stop_ops, imm_number, imm_ops, load_number, load_ops, store_number, store_ops, IsRow}
use Rattle.mips_decode.specs.Decoded.{fields_of}
use Rattle.mips_decode.specs.Decoder.{three, shift, hi_lo, mul_div, jump_reg, jump_link, special, upper, immediate, load, store, sign_branch, sign_branches, equal_branch, zero_branch, by_op, by_fields, three_op, shift_op, hi_lo_op, mul_op, stop_op, imm_op, load_op, store_op}
use Rattle.mips_decode.proofs.Chosen.{IfSome-numbered, IfSome-cond, IfSome-then_some, IfSome-map_or}

-- Two and three empty fields that are 0.
both : (a b : ℕ) → (a == 0 && b == 0) ≡ true → (a ≡ 0) × (b ≡ 0)
both a b e = (Decides-and _ _ (Decides-eqb a 0) (Decides-eqb b 0)).0 e

all : (a b c : ℕ) → (a == 0 && b == 0 && c == 0) ≡ true → ((a ≡ 0) × (b ≡ 0)) × (c ≡ 0)
all a b c e =
    (Decides-and _ _ (Decides-and _ _ (Decides-eqb a 0) (Decides-eqb b 0)) (Decides-eqb c 0)).0 e

-- The op and the fn of a word, as premises on it.
pub record IsSpecial (w fn : ℕ) : Type 0 where
  pub low : w < 2 ^ 32
  pub op : w / 2 ^ 26 % 2 ^ 6 ≡ 0
  pub number : w % 2 ^ 6 ≡ fn

pub record HasOp (w op : ℕ) : Type 0 where
  pub low : w < 2 ^ 32
  pub number : w / 2 ^ 26 % 2 ^ 6 ≡ op

three-row : (w : ℕ) (op : Op3) → IsSpecial w (three_number op) → IfSome (three (fields_of w) op) (IsRow w)
three-row w op p =
    IfSome-then_some (IsRow w) _ _ (λ z. let s = eqb-true _ _ z in
    ((omega arith, omega arith, omega arith), omega arith))

shift-row : (w : ℕ) (op : ShiftOp) → IsSpecial w (shift_number op) → IfSome (shift (fields_of w) op) (IsRow w)
shift-row w op p =
    IfSome-then_some (IsRow w) _ _ (λ z. let s = eqb-true _ _ z in
    ((omega arith, omega arith, omega arith), omega arith))

hi_lo-row : (w : ℕ) (op : HiLoOp) → IsSpecial w (hi_lo_number op) → IfSome (hi_lo (fields_of w) op) (IsRow w)
hi_lo-row w Mfhi p =
    IfSome-then_some (IsRow w) _ _ (λ z. let s = all (w / 2 ^ 21 % 2 ^ 5) (w / 2 ^ 16 % 2 ^ 5) (w / 2 ^ 6 % 2 ^ 5) z in (omega arith, omega arith))
hi_lo-row w Mthi p =
    IfSome-then_some (IsRow w) _ _ (λ z. let s = all (w / 2 ^ 16 % 2 ^ 5) (w / 2 ^ 11 % 2 ^ 5) (w / 2 ^ 6 % 2 ^ 5) z in (omega arith, omega arith))
hi_lo-row w Mflo p =
    IfSome-then_some (IsRow w) _ _ (λ z. let s = all (w / 2 ^ 21 % 2 ^ 5) (w / 2 ^ 16 % 2 ^ 5) (w / 2 ^ 6 % 2 ^ 5) z in (omega arith, omega arith))
hi_lo-row w Mtlo p =
    IfSome-then_some (IsRow w) _ _ (λ z. let s = all (w / 2 ^ 16 % 2 ^ 5) (w / 2 ^ 11 % 2 ^ 5) (w / 2 ^ 6 % 2 ^ 5) z in (omega arith, omega arith))

mul_div-row : (w : ℕ) (op : MulOp) → IsSpecial w (mul_number op) → IfSome (mul_div (fields_of w) op) (IsRow w)
mul_div-row w op p =
    IfSome-then_some (IsRow w) _ _ (λ z. let s = both (w / 2 ^ 11 % 2 ^ 5) (w / 2 ^ 6 % 2 ^ 5) z in ((omega arith, omega arith), omega arith))

stop-row : (w : ℕ) (op : StopOp) → IsSpecial w (stop_number op) → IsRow w (Stop op (w / 2 ^ 6 % 2 ^ 20))
stop-row w op p = (omega arith, omega arith)

jump_reg-row : (w : ℕ) → IsSpecial w 8 → IfSome (jump_reg (fields_of w)) (IsRow w)
jump_reg-row w p =
    IfSome-then_some (IsRow w) _ _ (λ z. let s = all (w / 2 ^ 16 % 2 ^ 5) (w / 2 ^ 11 % 2 ^ 5) (w / 2 ^ 6 % 2 ^ 5) z in (omega arith, omega arith))

jump_link-row : (w : ℕ) → IsSpecial w 9 → IfSome (jump_link (fields_of w)) (IsRow w)
jump_link-row w p =
    IfSome-then_some (IsRow w) _ _ (λ z. let s = both (w / 2 ^ 16 % 2 ^ 5) (w / 2 ^ 6 % 2 ^ 5) z in ((omega arith, omega arith), omega arith))

-- A word of op 0 with a known fn.
with-function : (w fn : ℕ) → HasOp w 0 → w % 2 ^ 6 ≡ fn → IsSpecial w fn
with-function w fn p e = record { low = p.low; op = p.number; number = e }

special-row : (w : ℕ) → HasOp w 0 → IfSome (special (fields_of w)) (IsRow w)
special-row w p =
    let n = w % 2 ^ 6 in
    IfSome-map_or (IsRow w) _ (three_op n) _
    (λ op f. three-row w op (with-function w (three_number op) p (IfSome-numbered three_number n three_ops op f)))
    (IfSome-map_or (IsRow w) _ (shift_op n) _
    (λ op f. shift-row w op (with-function w (shift_number op) p (IfSome-numbered shift_number n shift_ops op f)))
    (IfSome-map_or (IsRow w) _ (hi_lo_op n) _
    (λ op f. hi_lo-row w op (with-function w (hi_lo_number op) p (IfSome-numbered hi_lo_number n hi_lo_ops op f)))
    (IfSome-map_or (IsRow w) _ (mul_op n) _
    (λ op f. mul_div-row w op (with-function w (mul_number op) p (IfSome-numbered mul_number n mul_ops op f)))
    (IfSome-map_or (IsRow w) _ (stop_op n) _
    (λ op f. stop-row w op (with-function w (stop_number op) p (IfSome-numbered stop_number n stop_ops op f)))
    (IfSome-cond (IsRow w) _ _ _ (λ z. jump_reg-row w (with-function w 8 p (eqb-true _ _ z)))
    (λ _. IfSome-cond (IsRow w) _ _ _ (λ z. jump_link-row w (with-function w 9 p (eqb-true _ _ z))) (λ _. tt)))))))

-- A branch of op 1 whose number stands in rt.
bltz-row : (w : ℕ) → HasOp w 1 → w / 2 ^ 16 % 2 ^ 5 ≡ 0 → IfSome (sign_branch (fields_of w) Bltz) (IsRow w)
bltz-row w p e = ((omega arith, omega arith, omega arith, refl), omega arith)

bgez-row : (w : ℕ) → HasOp w 1 → w / 2 ^ 16 % 2 ^ 5 ≡ 1 → IfSome (sign_branch (fields_of w) Bgez) (IsRow w)
bgez-row w p e = ((omega arith, omega arith, omega arith, refl), omega arith)

bltzal-row : (w : ℕ) → HasOp w 1 → w / 2 ^ 16 % 2 ^ 5 ≡ 16 → IfSome (sign_branch (fields_of w) Bltzal) (IsRow w)
bltzal-row w p e = ((omega arith, omega arith, omega arith, refl), omega arith)

bgezal-row : (w : ℕ) → HasOp w 1 → w / 2 ^ 16 % 2 ^ 5 ≡ 17 → IfSome (sign_branch (fields_of w) Bgezal) (IsRow w)
bgezal-row w p e = ((omega arith, omega arith, omega arith, refl), omega arith)

sign_branches-row : (w : ℕ) → HasOp w 1 → IfSome (sign_branches (fields_of w)) (IsRow w)
sign_branches-row w p =
    IfSome-cond (IsRow w) _ _ _ (λ z. bltz-row w p (eqb-true _ _ z))
    (λ _. IfSome-cond (IsRow w) _ _ _ (λ z. bgez-row w p (eqb-true _ _ z))
    (λ _. IfSome-cond (IsRow w) _ _ _ (λ z. bltzal-row w p (eqb-true _ _ z))
    (λ _. IfSome-cond (IsRow w) _ _ _ (λ z. bgezal-row w p (eqb-true _ _ z))
    (λ _. tt))))

upper-row : (w : ℕ) → HasOp w 15 → IfSome (upper (fields_of w)) (IsRow w)
upper-row w p =
    IfSome-then_some (IsRow w) _ _ (λ z. let s = eqb-true _ _ z in ((omega arith, omega arith), omega arith))

immediate-row : (w : ℕ) (op : ImmOp) → HasOp w (imm_number op) → IfSome (immediate (fields_of w) op) (IsRow w)
immediate-row w op p = ((omega arith, omega arith, omega arith), omega arith)

load-row : (w : ℕ) (op : LoadOp) → HasOp w (load_number op) → IfSome (load (fields_of w) op) (IsRow w)
load-row w op p = ((omega arith, omega arith, omega arith), omega arith)

store-row : (w : ℕ) (op : StoreOp) → HasOp w (store_number op) → IfSome (store (fields_of w) op) (IsRow w)
store-row w op p = ((omega arith, omega arith, omega arith), omega arith)

beq-row : (w : ℕ) → HasOp w 4 → IfSome (equal_branch (fields_of w) Beq) (IsRow w)
beq-row w p = ((omega arith, omega arith, omega arith, tt), omega arith)

bne-row : (w : ℕ) → HasOp w 5 → IfSome (equal_branch (fields_of w) Bne) (IsRow w)
bne-row w p = ((omega arith, omega arith, omega arith, tt), omega arith)

blez-row : (w : ℕ) → HasOp w 6 → IfSome (zero_branch (fields_of w) Blez) (IsRow w)
blez-row w p =
    IfSome-then_some (IsRow w) _ _ (λ z. let s = eqb-true _ _ z in
    ((omega arith, omega arith, omega arith, s), omega arith))

bgtz-row : (w : ℕ) → HasOp w 7 → IfSome (zero_branch (fields_of w) Bgtz) (IsRow w)
bgtz-row w p =
    IfSome-then_some (IsRow w) _ _ (λ z. let s = eqb-true _ _ z in
    ((omega arith, omega arith, omega arith, s), omega arith))

jump-row : (w : ℕ) → HasOp w 2 → IsRow w (Jump false (w % 2 ^ 26))
jump-row w p = (omega arith, omega arith)

jal-row : (w : ℕ) → HasOp w 3 → IsRow w (Jump true (w % 2 ^ 26))
jal-row w p = (omega arith, omega arith)

-- A word with a known op.
with-op : (w op : ℕ) → w < 2 ^ 32 → ((w / 2 ^ 26 % 2 ^ 6) == op) ≡ true → HasOp w op
with-op w op low z = record { low = low; number = eqb-true _ _ z }

by_op-row : (w : ℕ) → w < 2 ^ 32 → IfSome (by_op (fields_of w)) (IsRow w)
by_op-row w low =
    IfSome-cond (IsRow w) _ _ _ (λ z. special-row w (with-op w 0 low z))
    (λ _. IfSome-cond (IsRow w) _ _ _ (λ z. sign_branches-row w (with-op w 1 low z))
    (λ _. IfSome-cond (IsRow w) _ _ _ (λ z. jump-row w (with-op w 2 low z))
    (λ _. IfSome-cond (IsRow w) _ _ _ (λ z. jal-row w (with-op w 3 low z))
    (λ _. IfSome-cond (IsRow w) _ _ _ (λ z. beq-row w (with-op w 4 low z))
    (λ _. IfSome-cond (IsRow w) _ _ _ (λ z. bne-row w (with-op w 5 low z))
    (λ _. IfSome-cond (IsRow w) _ _ _ (λ z. blez-row w (with-op w 6 low z))
    (λ _. IfSome-cond (IsRow w) _ _ _ (λ z. bgtz-row w (with-op w 7 low z))
    (λ _. IfSome-cond (IsRow w) _ _ _ (λ z. upper-row w (with-op w 15 low z))
    (λ _. tt)))))))))

-- What the decoder finds is in the table.
pub IfSome-by_fields : (w : ℕ) → w < 2 ^ 32 → IfSome (by_fields (fields_of w)) (IsRow w)
IfSome-by_fields w low =
    let n = w / 2 ^ 26 % 2 ^ 6 in
    IfSome-map_or (IsRow w) _ (imm_op n) _
    (λ op f. immediate-row w op (record { low = low; number = IfSome-numbered imm_number n imm_ops op f }))
    (IfSome-map_or (IsRow w) _ (load_op n) _
    (λ op f. load-row w op (record { low = low; number = IfSome-numbered load_number n load_ops op f }))
    (IfSome-map_or (IsRow w) _ (store_op n) _
    (λ op f. store-row w op (record { low = low; number = IfSome-numbered store_number n store_ops op f }))
    (by_op-row w low)))
