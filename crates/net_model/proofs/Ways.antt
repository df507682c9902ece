-- Where a jump or branch goes is one of its ways, what it calls, or back to its caller.
use Rattle.std.proofs.Common.{◌≡◌, ℕ, ◌+◌, ◌==◌, ◌&&◌, Bool, true, false, not, cond, List, [], ◌∷◌, ◌++◌, Some, Contains, refl, ap, sym, subst, ◌∙◌, arith}
use Rattle.std.proofs.lemmas.Bool.Decides.{nat_tests}
use Rattle.std.proofs.lemmas.List.Elements.{Contains-append_right}
use Rattle.elf_mips.specs.declared.image.Image.{Image}
use Rattle.mips_decode.specs.declared.instr.BranchOp.{BranchOp}
use Rattle.mips_decode.specs.declared.instr.BranchOp.TheVariants.{Beq, Bne, Blez, Bgtz, Bltz, Bgez, Bltzal, Bgezal}
use Rattle.mips_decode.specs.declared.instr.Instr.{Instr}
use Rattle.mips_decode.specs.declared.instr.Instr.TheVariants.{Three, Shift, HiLo, MulDiv, Imm, Lui, Load, Store, Branch, Jump, JumpReg, JumpLink, Stop}
use Rattle.mips_decode.specs.declared.step.Regs.{Regs}
use Rattle.mips_decode.specs.Effect.{reg}
use Rattle.mips_decode.specs.Records.{GoesToRecorded}
use Rattle.mips_decode.specs.Transfer.{Linking, Straight, Calls, Returns, Decided, branch_links, branch_target, branch_way, call_of, decided, is_taken, jump_link_way, jump_target, jump_way, link_address, link_of, linked}
use Rattle.net_model.specs.Flow.{callees, own_ways}
use Rattle.net_model.specs.Onward.{is_return, may_be_passed, may_be_taken}
use Rattle.net_model.specs.Targets.{targets_at}
use Rattle.net_model.proofs.Zero.{IsZero, with_reg-zero}

-- What the tests of branches say of registers that are 0, or of a register and itself.
taken-may : (op : BranchOp) (rs rt : ℕ) (regs : Regs) → IsZero regs →
    is_taken op (reg regs rs) (reg regs rt) ≡ true → may_be_taken op rs rt ≡ true
taken-may Beq rs rt regs is taken = refl
taken-may Bne rs rt regs is taken = by_test (rs == rt) refl where
  by_test : (b : Bool) → (rs == rt) ≡ b → not b ≡ true
  by_test true same =
      let here : rs ≡ rt = grind (arith, nat_tests) in
      let equal : reg regs rs ≡ reg regs rt = ap (reg regs) here in
      absurd (grind (arith, nat_tests))
  by_test false same = refl
taken-may Blez rs rt regs is taken = refl
taken-may Bgtz rs rt regs is taken = by_test (rs == 0) refl where
  by_test : (b : Bool) → (rs == 0) ≡ b → not b ≡ true
  by_test true same =
      let here : rs ≡ 0 = grind (arith, nat_tests) in
      let none : reg regs rs ≡ 0 = ap (reg regs) here ∙ is in
      let no : false ≡ true = subst (λ (n : ℕ). is_taken Bgtz n (reg regs rt) ≡ true) none taken in cc
  by_test false same = refl
taken-may Bltz rs rt regs is taken = by_test (rs == 0) refl where
  by_test : (b : Bool) → (rs == 0) ≡ b → not b ≡ true
  by_test true same =
      let here : rs ≡ 0 = grind (arith, nat_tests) in
      let none : reg regs rs ≡ 0 = ap (reg regs) here ∙ is in
      let no : false ≡ true = subst (λ (n : ℕ). is_taken Bltz n (reg regs rt) ≡ true) none taken in cc
  by_test false same = refl
taken-may Bgez rs rt regs is taken = refl
taken-may Bltzal rs rt regs is taken = by_test (rs == 0) refl where
  by_test : (b : Bool) → (rs == 0) ≡ b → not b ≡ true
  by_test true same =
      let here : rs ≡ 0 = grind (arith, nat_tests) in
      let none : reg regs rs ≡ 0 = ap (reg regs) here ∙ is in
      let no : false ≡ true = subst (λ (n : ℕ). is_taken Bltzal n (reg regs rt) ≡ true) none taken in cc
  by_test false same = refl
taken-may Bgezal rs rt regs is taken = refl

passed-may : (op : BranchOp) (rs rt : ℕ) (regs : Regs) → IsZero regs →
    is_taken op (reg regs rs) (reg regs rt) ≡ false → may_be_passed op rs rt ≡ true
passed-may Beq rs rt regs is passed = by_test (rs == rt) refl where
  by_test : (b : Bool) → (rs == rt) ≡ b → not b ≡ true
  by_test true same =
      let here : rs ≡ rt = grind (arith, nat_tests) in
      let equal : reg regs rs ≡ reg regs rt = ap (reg regs) here in
      absurd (grind (arith, nat_tests))
  by_test false same = refl
passed-may Bne rs rt regs is passed = refl
passed-may Blez rs rt regs is passed = by_test (rs == 0) refl where
  by_test : (b : Bool) → (rs == 0) ≡ b → not b ≡ true
  by_test true same =
      let here : rs ≡ 0 = grind (arith, nat_tests) in
      let none : reg regs rs ≡ 0 = ap (reg regs) here ∙ is in
      let no : true ≡ false = subst (λ (n : ℕ). is_taken Blez n (reg regs rt) ≡ false) none passed in cc
  by_test false same = refl
passed-may Bgtz rs rt regs is passed = refl
passed-may Bltz rs rt regs is passed = refl
passed-may Bgez rs rt regs is passed = by_test (rs == 0) refl where
  by_test : (b : Bool) → (rs == 0) ≡ b → not b ≡ true
  by_test true same =
      let here : rs ≡ 0 = grind (arith, nat_tests) in
      let none : reg regs rs ≡ 0 = ap (reg regs) here ∙ is in
      let no : true ≡ false = subst (λ (n : ℕ). is_taken Bgez n (reg regs rt) ≡ false) none passed in cc
  by_test false same = refl
passed-may Bltzal rs rt regs is passed = refl
passed-may Bgezal rs rt regs is passed = by_test (rs == 0) refl where
  by_test : (b : Bool) → (rs == 0) ≡ b → not b ≡ true
  by_test true same =
      let here : rs ≡ 0 = grind (arith, nat_tests) in
      let none : reg regs rs ≡ 0 = ap (reg regs) here ∙ is in
      let no : true ≡ false = subst (λ (n : ℕ). is_taken Bgezal n (reg regs rt) ≡ false) none passed in cc
  by_test false same = refl

-- Where a jump or branch goes: on one of its own ways, to a function that it calls, or back to its caller.
abbrev pub GoesItsWay : Image → Instr → (pc : ℕ) → Linking → (next : ℕ) → Type 0
GoesItsWay image instr pc Straight next = Contains (own_ways image instr pc) next
GoesItsWay image instr pc (Calls call) next =
    (call ≡ record { site = pc; target = next }) × Contains (callees image instr pc) next
GoesItsWay image instr pc Returns next = is_return instr ≡ true

here-first : (n : ℕ) (more : List ℕ) → Contains (n ∷ more) n
here-first n more = (0, Prim.omega arith, refl)

-- The same of a branch that may be taken and may be passed.
abbrev BranchGoes : (links may passed : Bool) → (pc target : ℕ) → Linking → (next : ℕ) → Type 0
BranchGoes links may passed pc target Straight next =
    Contains (cond links (cond passed ((pc + 8) ∷ []) []) (cond may (target ∷ []) [] ++ cond passed ((pc + 8) ∷ []) [])) next
BranchGoes links may passed pc target (Calls call) next =
    (call ≡ record { site = pc; target = next }) × Contains (cond (links && may) (target ∷ []) []) next
BranchGoes links may passed pc target Returns next = ⊥

branch-goes : (links taken may passed : Bool) (pc target : ℕ) → (taken ≡ true → may ≡ true) → (taken ≡ false → passed ≡ true) →
    BranchGoes links may passed pc target (call_of (links && taken) pc target) (cond taken target (pc + 8))
branch-goes true true true passed pc target forward behind = (refl, here-first target [])
branch-goes false true true passed pc target forward behind = here-first target _
branch-goes links true false passed pc target forward behind = absurd (let no : false ≡ true = forward refl in cc)
branch-goes true false may true pc target forward behind = here-first (pc + 8) []
branch-goes false false may true pc target forward behind =
    Contains-append_right (cond may (target ∷ []) []) ((pc + 8) ∷ []) (pc + 8) (here-first (pc + 8) [])
branch-goes links false may false pc target forward behind = absurd (let no : false ≡ true = behind refl in cc)

branch-way : (image : Image) (op : BranchOp) (rs rt offset pc : ℕ) (link : Linking) (next : ℕ) →
    BranchGoes (branch_links op) (may_be_taken op rs rt) (may_be_passed op rs rt) pc (branch_target pc offset) link next →
    GoesItsWay image (Branch op rs rt offset) pc link next
branch-way image op rs rt offset pc Straight next goes = goes
branch-way image op rs rt offset pc (Calls call) next goes = goes
branch-way image op rs rt offset pc Returns next goes = absurd goes

register-way : (image : Image) (rs pc next : ℕ) (b : Bool) → (rs == 31) ≡ b → (not b ≡ true → Contains (targets_at image pc) next) →
    GoesItsWay image (JumpReg rs) pc (cond b Returns Straight) next
register-way image rs pc next true same keeps = same
register-way image rs pc next false same keeps = rw same (keeps refl)

-- The way that a jump or branch decides, where its target is recorded if it needs a record.
pub decided-goes : (image : Image) (instr : Instr) (pc : ℕ) (regs : Regs) (way : Decided) → IsZero regs →
    GoesToRecorded (targets_at image pc) instr way.next → decided instr pc regs ≡ Some way →
    GoesItsWay image instr pc way.link way.next
decided-goes image (Branch op rs rt offset) pc regs way is keeps same =
    let taken : Bool = is_taken op (reg regs rs) (reg regs rt) in
    let target : ℕ = branch_target pc offset in
    let goes = branch-way image op rs rt offset pc (call_of (branch_links op && taken) pc target) (cond taken target (pc + 8))
    (branch-goes (branch_links op) taken (may_be_taken op rs rt) (may_be_passed op rs rt) pc target
    (taken-may op rs rt regs is) (passed-may op rs rt regs is)) in
    let here : branch_way (branch_links op) taken pc target regs ≡ way = cc in
    subst (λ (w : Decided). GoesItsWay image (Branch op rs rt offset) pc w.link w.next) here goes
decided-goes image (Jump true index) pc regs way is keeps same =
    let here : jump_way true pc (jump_target pc index) regs ≡ way = cc in
    subst (λ (w : Decided). GoesItsWay image (Jump true index) pc w.link w.next) here
    (refl, here-first (jump_target pc index) [])
decided-goes image (Jump false index) pc regs way is keeps same =
    let here : jump_way false pc (jump_target pc index) regs ≡ way = cc in
    subst (λ (w : Decided). GoesItsWay image (Jump false index) pc w.link w.next) here
    (here-first (jump_target pc index) [])
decided-goes image (JumpReg rs) pc regs way is keeps same =
    let here : record { next = reg regs rs; regs = regs; link = link_of rs } ≡ way = cc in
    let recorded : GoesToRecorded (targets_at image pc) (JumpReg rs) (reg regs rs) =
    subst (λ (w : Decided). GoesToRecorded (targets_at image pc) (JumpReg rs) w.next) (sym here) keeps in
    subst (λ (w : Decided). GoesItsWay image (JumpReg rs) pc w.link w.next) here
    (register-way image rs pc (reg regs rs) (rs == 31) refl recorded)
decided-goes image (JumpLink rd rs) pc regs way is keeps same =
    let here : jump_link_way rd (reg regs rs) pc regs ≡ way = cc in
    let recorded : GoesToRecorded (targets_at image pc) (JumpLink rd rs) (reg regs rs) =
    subst (λ (w : Decided). GoesToRecorded (targets_at image pc) (JumpLink rd rs) w.next) (sym here) keeps in
    subst (λ (w : Decided). GoesItsWay image (JumpLink rd rs) pc w.link w.next) here (refl, recorded refl)
decided-goes image (Three op rd rs rt) pc regs way is keeps same = cc
decided-goes image (Shift op rd rt by) pc regs way is keeps same = cc
decided-goes image (HiLo op number) pc regs way is keeps same = cc
decided-goes image (MulDiv op rs rt) pc regs way is keeps same = cc
decided-goes image (Imm op rt rs imm) pc regs way is keeps same = cc
decided-goes image (Lui rt imm) pc regs way is keeps same = cc
decided-goes image (Load op rt base offset) pc regs way is keeps same = cc
decided-goes image (Store op rt base offset) pc regs way is keeps same = cc
decided-goes image (Stop op code) pc regs way is keeps same = cc

linked-zero : (links : Bool) (pc : ℕ) (regs : Regs) → IsZero regs → IsZero (linked links pc regs)
linked-zero true pc regs is = with_reg-zero regs 31 (link_address pc) is
linked-zero false pc regs is = is

some-zero : (regs : Regs) (next : ℕ) (link : Linking) (way : Decided) → IsZero regs →
    Some (record { next = next; regs = regs; link = link }) ≡ Some way → IsZero way.regs
some-zero regs next link way is same =
    let here : record { next = next; regs = regs; link = link } ≡ way = cc in
    subst (λ (w : Decided). IsZero w.regs) here is

-- Register 0 stays 0 where a link is written.
pub decided-zero : (instr : Instr) (pc : ℕ) (regs : Regs) (way : Decided) → IsZero regs →
    decided instr pc regs ≡ Some way → IsZero way.regs
decided-zero (Branch op rs rt offset) pc regs way is same = some-zero _ _ _ way (linked-zero (branch_links op) pc regs is) same
decided-zero (Jump link index) pc regs way is same = some-zero _ _ _ way (linked-zero link pc regs is) same
decided-zero (JumpReg rs) pc regs way is same = some-zero _ _ _ way is same
decided-zero (JumpLink rd rs) pc regs way is same = some-zero _ _ _ way (with_reg-zero regs rd (link_address pc) is) same
decided-zero (Three op rd rs rt) pc regs way is same = cc
decided-zero (Shift op rd rt by) pc regs way is same = cc
decided-zero (HiLo op number) pc regs way is same = cc
decided-zero (MulDiv op rs rt) pc regs way is same = cc
decided-zero (Imm op rt rs imm) pc regs way is same = cc
decided-zero (Lui rt imm) pc regs way is same = cc
decided-zero (Load op rt base offset) pc regs way is same = cc
decided-zero (Store op rt base offset) pc regs way is same = cc
decided-zero (Stop op code) pc regs way is same = cc
