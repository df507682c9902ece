-- What units that return or call do beside that.
use Rattle.std.proofs.Common.{◌≡◌, ℕ, ◌+◌, ◌==◌, ◌&&◌, Bool, true, false, not, cond, List, [], ◌∷◌, Contains, refl}
use Rattle.elf_mips.specs.declared.image.Image.{Image}
use Rattle.mips_decode.specs.declared.instr.BranchOp.{BranchOp}
use Rattle.mips_decode.specs.declared.instr.Instr.{Instr}
use Rattle.mips_decode.specs.declared.instr.Instr.TheVariants.{Three, Shift, HiLo, MulDiv, Imm, Lui, Load, Store, Branch, Jump, JumpReg, JumpLink, Stop}
use Rattle.mips_decode.specs.Transfer.{branch_links, branch_target, jump_target}
use Rattle.net_model.specs.declared.unit.CodeUnit.{CodeUnit}
use Rattle.net_model.specs.Flow.{called, callees, own_ways, passed_way, ways_on}
use Rattle.net_model.specs.Onward.{branch_ways, is_link_passed, is_return, may_be_passed, may_be_taken, returns, stops}
use Rattle.net_model.specs.Targets.{targets_at}
use Rattle.loop_nest.proofs.Ordered.{first-in, nothing-in}

-- `jr $31` has no ways and calls nothing.
return-ways : (image : Image) (instr : Instr) (address : ℕ) → is_return instr ≡ true →
    (own_ways image instr address ≡ []) × (callees image instr address ≡ [])
return-ways image (JumpReg rs) address is = (by_return (rs == 31) is, refl) where
  by_return : (b : Bool) → b ≡ true → cond b [] (targets_at image address) ≡ []
  by_return true e = refl
  by_return false e = absurd cc
return-ways image (Three op rd rs rt) address is = absurd cc
return-ways image (Shift op rd rt by) address is = absurd cc
return-ways image (HiLo op at) address is = absurd cc
return-ways image (MulDiv op rs rt) address is = absurd cc
return-ways image (Imm op rt rs imm) address is = absurd cc
return-ways image (Lui rt imm) address is = absurd cc
return-ways image (Load op rt base offset) address is = absurd cc
return-ways image (Store op rt base offset) address is = absurd cc
return-ways image (Stop op code) address is = absurd cc
return-ways image (JumpLink rd rs) address is = absurd cc
return-ways image (Branch op rs rt offset) address is = absurd cc
return-ways image (Jump link index) address is = absurd cc

pub returns-quiet : (image : Image) (unit : CodeUnit) (address : ℕ) → returns unit ≡ true →
    (ways_on image unit address ≡ []) × (called image unit address ≡ [])
returns-quiet image unit address leaving = by_stop (stops unit) leaving where
  by_stop : (b : Bool) → (not b && is_return unit.instr) ≡ true →
      (cond b [] (own_ways image unit.instr address) ≡ []) × (cond b [] (callees image unit.instr address) ≡ [])
  by_stop true e = (refl, refl)
  by_stop false e = return-ways image unit.instr address e

-- A unit that calls goes on by itself just where it may be not taken, and then behind its slot.
abbrev pub PassesOn : List ℕ → (address : ℕ) → Bool → Type 0
PassesOn ways address passed =
    ((later : ℕ) → Contains ways later → passed ≡ true) × (passed ≡ true → Contains ways (address + 8))

passed-on : (op : BranchOp) (rs rt address : ℕ) (b : Bool) → may_be_passed op rs rt ≡ b → PassesOn (passed_way op rs rt address) address b
passed-on op rs rt address true e = rw e (λ later there. refl, λ same. first-in (address + 8) [])
passed-on op rs rt address false e = rw e (λ later there. absurd (nothing-in later there), λ same. absurd cc)

call-passes : (image : Image) (instr : Instr) (address callee : ℕ) → Contains (callees image instr address) callee →
    PassesOn (own_ways image instr address) address (is_link_passed instr)
call-passes image (Branch op rs rt offset) address callee there = by_link (branch_links op) refl there where
  by_link : (b : Bool) → branch_links op ≡ b → Contains (cond (b && may_be_taken op rs rt) (branch_target address offset ∷ []) []) callee →
      PassesOn (cond b (passed_way op rs rt address) (branch_ways op rs rt offset address)) address (b && may_be_passed op rs rt)
  by_link true e there = passed-on op rs rt address (may_be_passed op rs rt) refl
  by_link false e there = absurd (nothing-in callee there)
call-passes image (Jump link index) address callee there = by_link link there where
  by_link : (b : Bool) → Contains (cond b (jump_target address index ∷ []) []) callee →
      PassesOn (cond b [] (jump_target address index ∷ [])) address false
  by_link true there = (λ later among. absurd (nothing-in later among), λ same. absurd cc)
  by_link false there = absurd (nothing-in callee there)
call-passes image (JumpLink rd rs) address callee there = (λ later among. absurd (nothing-in later among), λ same. absurd cc)
call-passes image (JumpReg rs) address callee there = absurd (nothing-in callee there)
call-passes image (Three op rd rs rt) address callee there = absurd (nothing-in callee there)
call-passes image (Shift op rd rt by) address callee there = absurd (nothing-in callee there)
call-passes image (HiLo op at) address callee there = absurd (nothing-in callee there)
call-passes image (MulDiv op rs rt) address callee there = absurd (nothing-in callee there)
call-passes image (Imm op rt rs imm) address callee there = absurd (nothing-in callee there)
call-passes image (Lui rt imm) address callee there = absurd (nothing-in callee there)
call-passes image (Load op rt base offset) address callee there = absurd (nothing-in callee there)
call-passes image (Store op rt base offset) address callee there = absurd (nothing-in callee there)
call-passes image (Stop op code) address callee there = absurd (nothing-in callee there)

pub called-passes : (image : Image) (unit : CodeUnit) (address callee : ℕ) → Contains (called image unit address) callee →
    PassesOn (ways_on image unit address) address (is_link_passed unit.instr)
called-passes image unit address callee there = by_stop (stops unit) there where
  by_stop : (b : Bool) → Contains (cond b [] (callees image unit.instr address)) callee →
      PassesOn (cond b [] (own_ways image unit.instr address)) address (is_link_passed unit.instr)
  by_stop true there = absurd (nothing-in callee there)
  by_stop false there = call-passes image unit.instr address callee there
