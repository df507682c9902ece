-- The decoder finds the candidate whose word it is.
use Rattle.std.proofs.Common.{subst, ◌≡◌, ℕ, ◌==◌, ◌^◌, ◌<◌, true, List, [], ◌∷◌, ◌++◌, refl, sym, ap, ◌∙◌, arith}
use Rattle.std.specs.Prelude.{Option, Some, None, IfSome, is_some, find}
use Rattle.std.specs.List.{AllByRecursion}
use Rattle.std.proofs.lemmas.Bool.{eqb-true, false≢true}
use Rattle.std.proofs.lemmas.Bool.Decides.{Decides-eqb}
use Rattle.mips_decode.specs.declared.fields.Fields.{Fields}
use Rattle.mips_decode.specs.declared.instr.Op3.{Op3}
use Rattle.mips_decode.specs.declared.instr.Op3.TheVariants.{Sllv, Srlv, Srav, Add, Addu, Sub, Subu, And, Or, Xor, Nor, Slt, Sltu}
use Rattle.mips_decode.specs.declared.instr.ShiftOp.{ShiftOp}
use Rattle.mips_decode.specs.declared.instr.ShiftOp.TheVariants.{Sll, Srl, Sra}
use Rattle.mips_decode.specs.declared.instr.MulOp.{MulOp}
use Rattle.mips_decode.specs.declared.instr.MulOp.TheVariants.{Mult, Multu, Div, Divu}
use Rattle.mips_decode.specs.declared.instr.ImmOp.{ImmOp}
use Rattle.mips_decode.specs.declared.instr.ImmOp.TheVariants.{Addi, Addiu, Slti, Sltiu, Andi, Ori, Xori}
use Rattle.mips_decode.specs.declared.instr.LoadOp.{LoadOp}
use Rattle.mips_decode.specs.declared.instr.LoadOp.TheVariants.{Lb, Lh, Lwl, Lw, Lbu, Lhu, Lwr}
use Rattle.mips_decode.specs.declared.instr.StoreOp.{StoreOp}
use Rattle.mips_decode.specs.declared.instr.StoreOp.TheVariants.{Sb, Sh, Swl, Sw, Swr}
use Rattle.mips_decode.specs.declared.instr.Instr.{Instr}
use Rattle.mips_decode.specs.declared.instr.Instr.TheVariants.{Three, Shift, MulDiv, Imm, Load, Store}
use Rattle.mips_decode.specs.Table.{IsRow, IsValid, word_of}
use Rattle.mips_decode.specs.Decoded.{fields_of, candidates, special_candidates, immediate_candidates, branch_candidates, decoded}
use Rattle.mips_decode.specs.Decoder.{by_fields}
use Rattle.mips_decode.proofs.Chosen.{IfSome-cond}
use Rattle.mips_decode.proofs.Encoded.{found-word_of}
use Rattle.mips_decode.proofs.Found.{StandsAt, is_some-find}
use Rattle.mips_decode.proofs.Rows.{IfSome-by_fields}

-- One fact of each item of two lists joined.
each-append : {X : Type 0} (P : X → Type 0) (xs ys : List X) → AllByRecursion P xs → AllByRecursion P ys →
    AllByRecursion P (xs ++ ys)
each-append P [] ys a b = b
each-append P (x ∷ xs) ys a b = (a.0, each-append P xs ys a.1 b)

-- The fields of a word are in their ranges, so each candidate is valid.
special-valid : (w : ℕ) → AllByRecursion IsValid (special_candidates (fields_of w))
special-valid w =
    let f : Fields = fields_of w in
    let three : (op : Op3) → IsValid (Three op f.rd f.rs f.rt) = λ op. (omega arith, omega arith, omega arith) in
    let shift : (op : ShiftOp) → IsValid (Shift op f.rd f.rt f.sa) = λ op. (omega arith, omega arith, omega arith) in
    let multiply : (op : MulOp) → IsValid (MulDiv op f.rs f.rt) = λ op. (omega arith, omega arith) in (
      three Sllv,
      (
        three Srlv,
        (
          three Srav,
          (
            three Add,
            (
              three Addu,
              (
                three Sub,
                (
                  three Subu,
                  (
                    three And,
                    (
                      three Or,
                      (
                        three Xor,
                        (
                          three Nor,
                          (
                            three Slt,
                            (
                              three Sltu,
                              (
                                shift Sll,
                                (
                                  shift Srl,
                                  (
                                    shift Sra,
                                    (
                                      omega arith,
                                      (
                                        omega arith,
                                        (
                                          omega arith,
                                          (
                                            omega arith,
                                            (
                                              multiply Mult,
                                              (
                                                multiply Multu,
                                                (
                                                  multiply Div,
                                                  (multiply Divu, (omega arith, ((omega arith, omega arith), (omega arith, (omega arith, tt))))),
                                                ),
                                              ),
                                            ),
                                          ),
                                        ),
                                      ),
                                    ),
                                  ),
                                ),
                              ),
                            ),
                          ),
                        ),
                      ),
                    ),
                  ),
                ),
              ),
            ),
          ),
        ),
      ),
    )

immediate-valid : (w : ℕ) → AllByRecursion IsValid (immediate_candidates (fields_of w))
immediate-valid w =
    let f : Fields = fields_of w in
    let immediate : (op : ImmOp) → IsValid (Imm op f.rt f.rs f.imm) = λ op. (omega arith, omega arith, omega arith) in
    let load : (op : LoadOp) → IsValid (Load op f.rt f.rs f.imm) = λ op. (omega arith, omega arith, omega arith) in
    let store : (op : StoreOp) → IsValid (Store op f.rt f.rs f.imm) = λ op. (omega arith, omega arith, omega arith) in (
      immediate Addi,
      (
        immediate Addiu,
        (
          immediate Slti,
          (
            immediate Sltiu,
            (
              immediate Andi,
              (
                immediate Ori,
                (
                  immediate Xori,
                  (
                    (omega arith, omega arith),
                    (
                      load Lb,
                      (
                        load Lh,
                        (
                          load Lwl,
                          (
                            load Lw,
                            (
                              load Lbu,
                              (load Lhu, (load Lwr, (store Sb, (store Sh, (store Swl, (store Sw, (store Swr, tt))))))),
                            ),
                          ),
                        ),
                      ),
                    ),
                  ),
                ),
              ),
            ),
          ),
        ),
      ),
    )

branch-valid : (w : ℕ) → AllByRecursion IsValid (branch_candidates (fields_of w))
branch-valid w = (
  (omega arith, omega arith, omega arith, tt),
  (
    (omega arith, omega arith, omega arith, tt),
    (
      (omega arith, omega arith, omega arith, refl),
      (
        (omega arith, omega arith, omega arith, refl),
        (
          (omega arith, omega arith, omega arith, refl),
          (
            (omega arith, omega arith, omega arith, refl),
            (
              (omega arith, omega arith, omega arith, refl),
              (
                (omega arith, omega arith, omega arith, refl),
                (omega arith, (omega arith, tt)),
              ),
            ),
          ),
        ),
      ),
    ),
  ),
)

candidates-valid : (w : ℕ) → AllByRecursion IsValid (candidates w)
candidates-valid w =
    let f : Fields = fields_of w in
    each-append IsValid (special_candidates f) (immediate_candidates f ++ branch_candidates f) (special-valid w)
    (each-append IsValid (immediate_candidates f) (branch_candidates f) (immediate-valid w) (branch-valid w))

-- What is found among valid instructions by its word is a row.
find-row : (w : ℕ) (instrs : List Instr) → AllByRecursion IsValid instrs →
    IfSome (find (λ i. w == word_of i) instrs) (IsRow w)
find-row w [] v = tt
find-row w (i ∷ instrs) v =
    IfSome-cond (IsRow w) (w == word_of i) (Some i) (find (λ i. w == word_of i) instrs)
    (λ z. (v.0, sym (eqb-true w (word_of i) z))) (λ _. find-row w instrs v.1)

IfSome-decoded : (w : ℕ) → IfSome (decoded w) (IsRow w)
unfolding decoded
IfSome-decoded w = find-row w (candidates w) (candidates-valid w)

-- A row's instruction is a candidate, so one is found.
is_some-decoded : (w : ℕ) (instr : Instr) → IsRow w instr → is_some (decoded w) ≡ true
unfolding decoded
is_some-decoded w instr r =
    let found = found-word_of instr r.0 in
    is_some-find (λ i. w == word_of i) found.1 (candidates w) instr
    (subst (λ n. StandsAt found.1 (candidates n) instr) r.1 found.2)
    ((Decides-eqb w (word_of instr)).1 (sym r.1))

-- Two rows of a word are one: the decoder gives it back.
row-unique : (w : ℕ) (i j : Instr) → IsRow w i → IsRow w j → Some i ≡ Some j
row-unique w i j r s =
    sym (found-word_of i r.0).0 ∙ ap (λ n. by_fields (fields_of n)) (r.1 ∙ sym s.1) ∙ (found-word_of j s.0).0

-- So what is found is the row's instruction.
found-row : (w : ℕ) (instr : Instr) (o : Option Instr) → IsRow w instr → is_some o ≡ true → IfSome o (IsRow w) →
    o ≡ Some instr
found-row w instr None r e s = absurd (false≢true e)
found-row w instr (Some other) r e s = row-unique w other instr s r

pub decoded-row : (w : ℕ) (instr : Instr) → IsRow w instr → decoded w ≡ Some instr
decoded-row w instr r = found-row w instr (decoded w) r (is_some-decoded w instr r) (IfSome-decoded w)

-- What the decoder finds by a word's fields is the candidate whose word it is.
same-found : (w : ℕ) (o p : Option Instr) → by_fields (fields_of w) ≡ o → decoded w ≡ p → IfSome o (IsRow w) →
    IfSome p (IsRow w) → o ≡ p
same-found w (Some i) p e f r s = sym (decoded-row w i r) ∙ f
same-found w None None e f r s = refl
same-found w None (Some j) e f r s =
    sym e ∙ ap (λ n. by_fields (fields_of n)) (sym s.1) ∙ (found-word_of j s.0).0

pub by_fields-decoded : (w : ℕ) → w < 2 ^ 32 → by_fields (fields_of w) ≡ decoded w
by_fields-decoded w low =
    same-found w (by_fields (fields_of w)) (decoded w) refl refl (IfSome-by_fields w low) (IfSome-decoded w)
