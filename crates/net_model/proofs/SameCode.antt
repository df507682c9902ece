-- Images with the same segments and records have the same functions, calls and faults.
use Rattle.std.proofs.Common.{◌≡◌, ℕ, ◌==◌, List, [], ◌∷◌, map, filter, refl, ap, sym, subst, ◌∙◌}
use Rattle.std.specs.Prelude.{Contains, ◌&&◌, if◌then◌else◌}
use Rattle.elf_mips.specs.declared.image.Image.{Image}
use Rattle.elf_mips.specs.declared.mark.Mark.{Mark}
use Rattle.mips_decode.specs.Records.{needs_target}
use Rattle.mips_decode.specs.declared.instr.Instr.{Instr}
use Rattle.mips_decode.specs.declared.instr.Instr.TheVariants.{Three, Shift, HiLo, MulDiv, Imm, Lui, Load, Store, Branch, Jump, JumpReg, JumpLink, Stop}
use Rattle.net_model.specs.declared.unit.CodeKind.{CodeKind}
use Rattle.net_model.specs.declared.unit.CodeKind.TheVariants.{LinkRegister, UnknownTarget}
use Rattle.net_model.specs.declared.unit.CodeUnit.{CodeUnit}
use Rattle.net_model.specs.declared.unit.Content.{Content}
use Rattle.net_model.specs.declared.unit.Content.TheVariants.{Unit as Stands, Fault}
use Rattle.net_model.specs.Faults.{Offends, faulty, recursive}
use Rattle.net_model.specs.Flow.{called, callees, own_ways, ways_on}
use Rattle.net_model.specs.Functions.{Calls, CallsAt, CanReturn, GoesOn, IsCallWay, IsFunction, IsReached, back, first, further, main, next, onward, returned}
use Rattle.net_model.specs.Onward.{stops}
use Rattle.net_model.specs.Targets.{is_none, linked_content, links_elsewhere, names_target, targets_at, unit_at}
use Rattle.net_model.specs.Units.{content_at}

-- What of two images makes their code the same.
pub record IsSameCode (a b : Image) : Type 0 where
  pub contents : (address : ℕ) → content_at a address ≡ content_at b address
  pub marks : a.marks ≡ b.marks

targets-same : (a b : Image) (address : ℕ) → IsSameCode a b → targets_at a address ≡ targets_at b address
targets-same a b address same =
    ap (λ (marks : List Mark). map (λ (mark : Mark). mark.x) (filter (names_target address) marks)) same.marks

linked-same : (a b : Image) (address : ℕ) (content : Content) → IsSameCode a b → linked_content a address content ≡ linked_content b address content
linked-same a b address (Fault kind place) same = refl
linked-same a b address (Stands unit) same =
    ap (λ (targets : List ℕ). if needs_target unit.instr && is_none targets then Fault UnknownTarget address
    else if links_elsewhere unit.instr then Fault LinkRegister address
    else Stands unit) (targets-same a b address same)

pub unit-same : (a b : Image) (address : ℕ) → IsSameCode a b → unit_at a address ≡ unit_at b address
unit-same a b address same = linked-same a b address (content_at a address) same ∙ ap (linked_content b address) (same.contents address)

own_ways-same : (a b : Image) (instr : Instr) (address : ℕ) → IsSameCode a b → own_ways a instr address ≡ own_ways b instr address
own_ways-same a b (Branch op rs rt offset) address same = refl
own_ways-same a b (Jump link index) address same = refl
own_ways-same a b (JumpReg rs) address same = ap (λ (targets : List ℕ). if rs == 31 then [] else targets) (targets-same a b address same)
own_ways-same a b (JumpLink rd rs) address same = refl
own_ways-same a b (Three op rd rs rt) address same = refl
own_ways-same a b (Shift op rd rt by) address same = refl
own_ways-same a b (HiLo op reg) address same = refl
own_ways-same a b (MulDiv op rs rt) address same = refl
own_ways-same a b (Imm op rt rs imm) address same = refl
own_ways-same a b (Lui rt imm) address same = refl
own_ways-same a b (Load op rt base offset) address same = refl
own_ways-same a b (Store op rt base offset) address same = refl
own_ways-same a b (Stop op code) address same = refl

pub ways-same : (a b : Image) (unit : CodeUnit) (address : ℕ) → IsSameCode a b → ways_on a unit address ≡ ways_on b unit address
ways-same a b unit address same =
    ap (λ (ways : List ℕ). if stops unit then [] else ways) (own_ways-same a b unit.instr address same)

callees-same : (a b : Image) (instr : Instr) (address : ℕ) → IsSameCode a b → callees a instr address ≡ callees b instr address
callees-same a b (Branch op rs rt offset) address same = refl
callees-same a b (Jump link index) address same = refl
callees-same a b (JumpReg rs) address same = refl
callees-same a b (JumpLink rd rs) address same = targets-same a b address same
callees-same a b (Three op rd rs rt) address same = refl
callees-same a b (Shift op rd rt by) address same = refl
callees-same a b (HiLo op reg) address same = refl
callees-same a b (MulDiv op rs rt) address same = refl
callees-same a b (Imm op rt rs imm) address same = refl
callees-same a b (Lui rt imm) address same = refl
callees-same a b (Load op rt base offset) address same = refl
callees-same a b (Store op rt base offset) address same = refl
callees-same a b (Stop op code) address same = refl

pub called-same : (a b : Image) (unit : CodeUnit) (address : ℕ) → IsSameCode a b → called a unit address ≡ called b unit address
called-same a b unit address same =
    ap (λ (calls : List ℕ). if stops unit then [] else calls) (callees-same a b unit.instr address same)

pub stands-same : (a b : Image) (address : ℕ) (content : Content) → IsSameCode a b → unit_at a address ≡ content → unit_at b address ≡ content
stands-same a b address content same e = sym (unit-same a b address same) ∙ e

mutual
  pub reached-same : (a b : Image) → IsSameCode a b → (function address : ℕ) → IsReached a function address → IsReached b function address
  reached-same a b same _ _ (first function) = first function
  reached-same a b same _ _ (next function address later reached on) =
      next function address later (reached-same a b same function address reached) (goes-same a b same address later on)

  pub goes-same : (a b : Image) → IsSameCode a b → (address later : ℕ) → GoesOn a address later → GoesOn b address later
  goes-same a b same _ _ (onward address later unit stands way) =
      onward address later unit (stands-same a b address (Stands unit) same stands)
      (subst (λ (ways : List ℕ). Contains ways later) (ways-same a b unit address same) way)
  goes-same a b same _ _ (back address callee unit stands calls can) =
      back address callee unit (stands-same a b address (Stands unit) same stands)
      (subst (λ (all : List ℕ). Contains all callee) (called-same a b unit address same) calls)
      (can-same a b same callee can)

  pub can-same : (a b : Image) → IsSameCode a b → (function : ℕ) → CanReturn a function → CanReturn b function
  can-same a b same _ (returned function address unit reached stands leaves) =
      returned function address unit (reached-same a b same function address reached)
      (stands-same a b address (Stands unit) same stands) leaves

pub calls_at-same : (a b : Image) → IsSameCode a b → (address callee : ℕ) → CallsAt a address callee → CallsAt b address callee
calls_at-same a b same address callee calls = record {
  unit = calls.unit;
  stands = stands-same a b address (Stands calls.unit) same calls.stands;
  called = subst (λ (all : List ℕ). Contains all callee) (called-same a b calls.unit address same) calls.called;
}

calls-same : (a b : Image) → IsSameCode a b → (function callee : ℕ) → Calls a function callee → Calls b function callee
calls-same a b same function callee calls = record {
  address = calls.address;
  reached = reached-same a b same function calls.address calls.reached;
  calls = calls_at-same a b same calls.address callee calls.calls;
}

pub function-same : (a b : Image) → IsSameCode a b → (entry function : ℕ) → IsFunction a entry function → IsFunction b entry function
function-same a b same entry _ main = main
function-same a b same entry _ (further function callee is calls) =
    further function callee (function-same a b same entry function is) (calls-same a b same function callee calls)

call_way-same : (a b : Image) → IsSameCode a b → (way : List ℕ) (from to : ℕ) → IsCallWay a from way to → IsCallWay b from way to
call_way-same a b same [] from to way = way
call_way-same a b same (callee ∷ more) from to way =
    (calls-same a b same from callee way.0, call_way-same a b same more callee to way.1)

pub offends-same : (a b : Image) → IsSameCode a b → (entry : ℕ) (kind : CodeKind) (place : ℕ) → Offends a entry kind place → Offends b entry kind place
offends-same a b same entry _ _ (faulty kind place address code e) =
    faulty kind place address (record {
      function = code.function;
      is = function-same a b same entry code.function code.is;
      reached = reached-same a b same code.function address code.reached;
    }) (stands-same a b address (Fault kind place) same e)
offends-same a b same entry _ _ (recursive function is) =
    recursive function (record {
      reached = function-same a b same entry function is.reached;
      callee = is.callee;
      more = is.more;
      begins = calls-same a b same function is.callee is.begins;
      back = call_way-same a b same is.more is.callee function is.back;
    })
