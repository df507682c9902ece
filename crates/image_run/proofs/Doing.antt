-- What a step of the machine at a unit of a program did, whatever the records say of it.
use Rattle.std.proofs.Common.{◌≡◌, ℕ, ◌+◌, ◌==◌, Bool, true, false, cond, [], ◌∷◌, Option, Some, None, is_some, refl, ap, sym, subst, ◌∙◌, arith}
use Rattle.std.proofs.lemmas.Bool.Decides.{nat_tests}
use Rattle.elf_mips.specs.declared.image.Image.{Image}
use Rattle.elf_mips.specs.Segments.{code_at}
use Rattle.mips_decode.specs.declared.instr.Instr.{Instr}
use Rattle.mips_decode.specs.declared.step.TrapKind.TheVariants.{Unknown}
use Rattle.mips_decode.specs.State.{State, return_address}
use Rattle.mips_decode.specs.Effect.{Effect, Does, Traps, effect}
use Rattle.mips_decode.specs.Transfer.{Decided, Straight, decided}
use Rattle.mips_decode.specs.Step.{Done, Fetched, Found, Missing, Stepped, Went, Returned, Trapped, fetched, plain_done, slot_done, slot_fetched, unit_fetched, unit_of, value_step}
use Rattle.net_model.specs.declared.unit.CodeUnit.{CodeUnit}
use Rattle.net_model.specs.declared.unit.Content.TheVariants.{Unit as Stands}
use Rattle.net_model.specs.Targets.{unit_at}
use Rattle.net_model.specs.Units.{is_transfer}
use Rattle.net_model.proofs.Contents.{HasSlot, IsFetched, IsFetched-unit, is_some-decided, unit-content}
use Rattle.image_run.specs.Links.{LeadsTo, linking_by}
use Rattle.image_run.specs.Road.{unit_instrs}

-- ---- A unit goes on to another address than the place of return, and returns there.
abbrev pub Ends : Stepped → Type 0
Ends (Went done t) = t.pc ≡ return_address → ⊥
Ends (Returned done t) = t.pc ≡ return_address
Ends (Trapped kind address) = Unit {0}

ended-ends : (b : Bool) (done : Done) (t : State) → (t.pc == return_address) ≡ b → Ends (cond b (Returned done t) (Went done t))
ended-ends true done t is = grind (arith, nat_tests)
ended-ends false done t is = λ same. absurd (grind (arith, nat_tests))

plain-ends : (s : State) (instr : Instr) (e : Effect) → Ends (plain_done s instr e)
plain-ends s instr (Traps kind) = tt
plain-ends s instr (Does access t) = ended-ends (s.pc + 4 == return_address) _ (record t { pc = s.pc + 4 }) refl

slot-ends : (s : State) (instr : Instr) (way : Decided) (slot : Instr) (e : Effect) → Ends (slot_done s instr way slot e)
slot-ends s instr way slot (Traps kind) = tt
slot-ends s instr way slot (Does access t) = ended-ends (way.next == return_address) _ (record t { pc = way.next }) refl

slot_by-ends : (b : Bool) (s : State) (instr : Instr) (way : Decided) (slot : Instr) (e : Effect) →
    Ends (cond b (Trapped Unknown (s.pc + 4)) (slot_done s instr way slot e))
slot_by-ends true s instr way slot e = tt
slot_by-ends false s instr way slot e = slot-ends s instr way slot e

slot_fetched-ends : (s : State) (instr : Instr) (way : Decided) (found : Fetched) → Ends (slot_fetched s instr way found)
slot_fetched-ends s instr way (Missing kind) = tt
slot_fetched-ends s instr way (Found slot) =
    slot_by-ends (is_some (decided slot (s.pc + 4) s.regs)) s instr way slot (effect slot (record s { regs = way.regs }))

unit-ends : (code : ℕ → Option ℕ) (s : State) (instr : Instr) (o : Option Decided) → Ends (unit_of code s instr o)
unit-ends code s instr None = plain-ends s instr (effect instr s)
unit-ends code s instr (Some way) = slot_fetched-ends s instr way (fetched code (s.pc + 4))

fetched-ends : (code : ℕ → Option ℕ) (s : State) (found : Fetched) → Ends (unit_fetched code s found)
fetched-ends code s (Missing kind) = tt
fetched-ends code s (Found instr) = unit-ends code s instr (decided instr s.pc s.regs)

pub step-ends : (code : ℕ → Option ℕ) (s : State) → Ends (value_step code s)
step-ends code s = fetched-ends code s (fetched code s.pc)

-- ---- A unit that was done.
pub record IsDone (unit : CodeUnit) (s : State) (done : Done) (t : State) : Type 0 where
  pub instructions : done.instructions ≡ unit_instrs unit.instr unit.slot
  pub leads : LeadsTo (decided unit.instr s.pc s.regs) t.pc
  pub link : done.link ≡ linking_by (decided unit.instr s.pc s.regs)

-- Its slot is no transfer.
abbrev pub HasPlainSlot : Option Instr → Type 0
HasPlainSlot None = Unit {0}
HasPlainSlot (Some slot) = is_transfer slot ≡ false

abbrev pub Did : CodeUnit → State → Stepped → Type 0
Did unit s (Went done t) = IsDone unit s done t
Did unit s (Returned done t) = IsDone unit s done t
Did unit s (Trapped kind address) = Unit {0}

ended-did : (b : Bool) (unit : CodeUnit) (s : State) (done : Done) (t : State) → IsDone unit s done t →
    Did unit s (cond b (Returned done t) (Went done t))
ended-did true unit s done t is = is
ended-did false unit s done t is = is

plain-did : (s : State) (instr : Instr) (e : Effect) → decided instr s.pc s.regs ≡ None →
    Did (record { instr = instr; slot = None }) s (plain_done s instr e)
plain-did s instr (Traps kind) none = tt
plain-did s instr (Does access t) none =
    ended-did (s.pc + 4 == return_address) (record { instr = instr; slot = None }) s
    (record { instructions = instr ∷ []; access = access; link = Straight }) (record t { pc = s.pc + 4 })
    (record {
      instructions = refl;
      leads = subst (λ (o : Option Decided). LeadsTo o (s.pc + 4)) (sym none) tt;
      link = ap linking_by (sym none);
    })

slot-did : (s : State) (instr : Instr) (way : Decided) (slot : Instr) (e : Effect) → decided instr s.pc s.regs ≡ Some way →
    Did (record { instr = instr; slot = Some slot }) s (slot_done s instr way slot e)
slot-did s instr way slot (Traps kind) some = tt
slot-did s instr way slot (Does access t) some =
    ended-did (way.next == return_address) (record { instr = instr; slot = Some slot }) s
    (record { instructions = instr ∷ slot ∷ []; access = access; link = way.link }) (record t { pc = way.next })
    (record {
      instructions = refl;
      leads = subst (λ (o : Option Decided). LeadsTo o way.next) (sym some) refl;
      link = ap linking_by (sym some);
    })

some-way : (o : Option Decided) → is_some o ≡ true → (way : Decided) × (o ≡ Some way)
some-way None is = cc
some-way (Some way) is = (way, refl)

no-way : (o : Option Decided) → is_some o ≡ false → o ≡ None
no-way None is = refl
no-way (Some way) is = cc

unit-did : (code : ℕ → Option ℕ) (s : State) (unit : CodeUnit) → IsFetched code s.pc unit → (slot : Option Instr) → unit.slot ≡ slot →
    Did (record { instr = unit.instr; slot = slot }) s (value_step code s)
unit-did code s unit is None none =
    let plain : is_transfer unit.instr ≡ false = subst (λ (o : Option Instr). HasSlot code s.pc unit.instr o) none is.slot in
    let way : decided unit.instr s.pc s.regs ≡ None =
    no-way (decided unit.instr s.pc s.regs) (is_some-decided unit.instr s.pc s.regs ∙ plain) in
    let e : value_step code s ≡ plain_done s unit.instr (effect unit.instr s) =
    ap (unit_fetched code s) is.instr ∙ ap (unit_of code s unit.instr) way in
    subst (λ (step : Stepped). Did (record { instr = unit.instr; slot = None }) s step) (sym e)
    (plain-did s unit.instr (effect unit.instr s) way)
unit-did code s unit is (Some slot) some =
    let facts = subst (λ (o : Option Instr). HasSlot code s.pc unit.instr o) some is.slot in
    let way = some-way (decided unit.instr s.pc s.regs) (is_some-decided unit.instr s.pc s.regs ∙ facts.0) in
    let e : value_step code s ≡ slot_done s unit.instr way.0 slot (effect slot (record s { regs = way.0.regs })) =
    ap (unit_fetched code s) is.instr
    ∙ ap (unit_of code s unit.instr) way.1
    ∙ ap (slot_fetched s unit.instr way.0) facts.1
    ∙ ap (λ (b : Bool). cond b (Trapped Unknown (s.pc + 4)) (slot_done s unit.instr way.0 slot (effect slot (record s { regs = way.0.regs }))))
    (is_some-decided slot (s.pc + 4) s.regs ∙ facts.2) in
    subst (λ (step : Stepped). Did (record { instr = unit.instr; slot = Some slot }) s step) (sym e)
    (slot-did s unit.instr way.0 slot (effect slot (record s { regs = way.0.regs })) way.1)

pub step-did : (image : Image) (unit : CodeUnit) (s : State) → unit_at image s.pc ≡ Stands unit →
    Did unit s (value_step (code_at image.segments) s)
step-did image unit s stands =
    unit-did (code_at image.segments) s unit (IsFetched-unit image s.pc unit (unit-content image s.pc unit stands)) unit.slot refl

pub plain-slot : (image : Image) (unit : CodeUnit) (address : ℕ) → unit_at image address ≡ Stands unit → HasPlainSlot unit.slot
plain-slot image unit address stands =
    by_slot unit.slot (IsFetched-unit image address unit (unit-content image address unit stands)).slot
  where
    by_slot : (slot : Option Instr) → HasSlot (code_at image.segments) address unit.instr slot → HasPlainSlot slot
    by_slot None has = tt
    by_slot (Some slot) has = has.2
