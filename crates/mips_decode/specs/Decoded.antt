-- The instruction that the table has for a word: the one of 58 candidates whose word it is.
use Rattle.std.specs.Prelude.{ℕ, ◌==◌, ◌/◌, ◌%◌, ◌^◌, true, false, List, [], ◌∷◌, ◌++◌, map, find, Option}
use Rattle.mips_decode.specs.declared.fields.Fields.{Fields}
use Rattle.mips_decode.specs.declared.instr.Op3.{Op3}
use Rattle.mips_decode.specs.declared.instr.ShiftOp.{ShiftOp}
use Rattle.mips_decode.specs.declared.instr.HiLoOp.TheVariants.{Mfhi, Mthi, Mflo, Mtlo}
use Rattle.mips_decode.specs.declared.instr.MulOp.{MulOp}
use Rattle.mips_decode.specs.declared.instr.ImmOp.{ImmOp}
use Rattle.mips_decode.specs.declared.instr.LoadOp.{LoadOp}
use Rattle.mips_decode.specs.declared.instr.StoreOp.{StoreOp}
use Rattle.mips_decode.specs.declared.instr.BranchOp.TheVariants.{Beq, Bne, Blez, Bgtz, Bltz, Bgez, Bltzal, Bgezal}
use Rattle.mips_decode.specs.declared.instr.StopOp.{StopOp}
use Rattle.mips_decode.specs.declared.instr.Instr.{Instr}
use Rattle.mips_decode.specs.declared.instr.Instr.TheVariants.{Three, Shift, HiLo, MulDiv, Imm, Lui, Load, Store, Branch, Jump, JumpReg, JumpLink, Stop}
use Rattle.mips_decode.specs.Table.{three_ops, shift_ops, mul_ops, stop_ops, imm_ops, load_ops, store_ops, word_of}

-- A word's fields, by the lowest bit and the width of each (MIPS I manual, instruction formats).
abbrev pub fields_of : ℕ → Fields
fields_of word = record {
  op = word / 2 ^ 26 % 2 ^ 6;
  rs = word / 2 ^ 21 % 2 ^ 5;
  rt = word / 2 ^ 16 % 2 ^ 5;
  rd = word / 2 ^ 11 % 2 ^ 5;
  sa = word / 2 ^ 6 % 2 ^ 5;
  function = word % 2 ^ 6;
  imm = word % 2 ^ 16;
  index = word % 2 ^ 26;
  code = word / 2 ^ 6 % 2 ^ 20;
}

-- Each operation of the table with the fields in its operands' places, as the table has them: first those of op 0. MFHI
-- and MFLO have their register in rd, MTHI and MTLO in rs.
abbrev pub special_candidates : Fields → List Instr
special_candidates fields =
    map (λ (op : Op3). Three op fields.rd fields.rs fields.rt) three_ops
    ++ map (λ (op : ShiftOp). Shift op fields.rd fields.rt fields.sa) shift_ops
    ++ HiLo Mfhi fields.rd ∷ HiLo Mthi fields.rs ∷ HiLo Mflo fields.rd ∷ HiLo Mtlo fields.rs
    ∷ map (λ (op : MulOp). MulDiv op fields.rs fields.rt) mul_ops
    ++ JumpReg fields.rs ∷ JumpLink fields.rd fields.rs
    ∷ map (λ (op : StopOp). Stop op fields.code) stop_ops

-- Operations with an immediate or an offset.
abbrev pub immediate_candidates : Fields → List Instr
immediate_candidates fields =
    map (λ (op : ImmOp). Imm op fields.rt fields.rs fields.imm) imm_ops
    ++ Lui fields.rt fields.imm
    ∷ map (λ (op : LoadOp). Load op fields.rt fields.rs fields.imm) load_ops
    ++ map (λ (op : StoreOp). Store op fields.rt fields.rs fields.imm) store_ops

-- Branches and jumps. Only BEQ and BNE compare with a second register, in the others it is register 0.
abbrev pub branch_candidates : Fields → List Instr
branch_candidates fields =
    Branch Beq fields.rs fields.rt fields.imm ∷ Branch Bne fields.rs fields.rt fields.imm
    ∷ Branch Blez fields.rs 0 fields.imm ∷ Branch Bgtz fields.rs 0 fields.imm
    ∷ Branch Bltz fields.rs 0 fields.imm ∷ Branch Bgez fields.rs 0 fields.imm
    ∷ Branch Bltzal fields.rs 0 fields.imm ∷ Branch Bgezal fields.rs 0 fields.imm
    ∷ Jump false fields.index ∷ Jump true fields.index ∷ []

abbrev pub candidates_with : Fields → List Instr
candidates_with fields =
    special_candidates fields ++ immediate_candidates fields ++ branch_candidates fields

abbrev pub candidates : ℕ → List Instr
candidates word = candidates_with (fields_of word)

-- The instruction that the table has for a word, if it has one. There's never a second one: two instructions whose
-- fields are in their ranges have two words, as `decode` promises by its clause `only`. What crates above need of it is
-- in the clauses of `decode`, so its body stays closed to them.
unfoldable pub decoded : ℕ → Option Instr
decoded word = find (λ instr. word == word_of instr) (candidates word)
