-- What a step of the machine at a unit of a program says: what it did, and where it goes on.
use Rattle.std.proofs.Common.{◌≡◌, ℕ, ◌+◌, ◌==◌, ◌||◌, ◌⊎◌, inl, inr, Bool, true, false, cond, List, [], ◌∷◌, Option, Some, None, is_some, Contains, refl, ap, sym, subst, ◌∙◌, arith}
use Rattle.std.specs.Prelude.{option_map}
use Rattle.std.proofs.lemmas.Bool.Decides.{nat_tests}
use Rattle.elf_mips.specs.declared.image.Image.{Image}
use Rattle.elf_mips.specs.Segments.{code_at}
use Rattle.mips_decode.specs.declared.instr.Instr.{Instr}
use Rattle.mips_decode.specs.declared.instr.Instr.TheVariants.{Three, Shift, HiLo, MulDiv, Imm, Lui, Load, Store, Branch, Jump, JumpReg, JumpLink, Stop}
use Rattle.mips_decode.specs.declared.step.Touched.{Touched}
use Rattle.mips_decode.specs.declared.step.TrapKind.TheVariants.{Unknown}
use Rattle.mips_decode.specs.State.{State, return_address}
use Rattle.mips_decode.specs.Effect.{Effect, Does, Traps, effect}
use Rattle.mips_decode.specs.Records.{GoToRecorded, KeepsTargets}
use Rattle.mips_decode.specs.Transfer.{Linking, Straight, Calls, Returns, Decided, decided}
use Rattle.mips_decode.specs.Step.{Done, Stepped, Went, Returned, Trapped, Found, fetched, plain_done, slot_done, slot_fetched, unit_of, unit_fetched, value_step}
use Rattle.mips_decode.specs.Run.{Joins}
use Rattle.net_model.specs.declared.unit.CodeUnit.{CodeUnit}
use Rattle.net_model.specs.declared.unit.Content.TheVariants.{Unit as Stands}
use Rattle.net_model.specs.Units.{is_transfer}
use Rattle.net_model.specs.Flow.{called, callees, own_ways, ways_on}
use Rattle.net_model.specs.Onward.{is_stop, returns, stops}
use Rattle.net_model.specs.Targets.{targets_at, unit_at}
use Rattle.net_model.proofs.Contents.{HasSlot, IsFetched, IsFetched-unit, is_some-decided, unit-content}
use Rattle.net_model.proofs.Zero.{IsEffect, IsLow, IsZero, effect-takes, touch}
use Rattle.net_model.proofs.Ways.{GoesItsWay, decided-goes, decided-zero}

-- The instructions of a unit in order, and its load or store.
abbrev pub slot_list : Option Instr → List Instr
slot_list None = []
slot_list (Some slot) = slot ∷ []

abbrev pub last_touch : Instr → Option Instr → Option Bool
last_touch instr None = touch instr
last_touch instr (Some slot) = touch slot

-- A step that goes on, or with which the entry has returned and the run ends.
abbrev pub IsDoneBy : Done → State → List State → Stepped → Type 0
IsDoneBy done next later step =
    ((step ≡ Went done next) × (next.pc ≡ return_address → ⊥))
    ⊎ ((step ≡ Returned done next) × (later ≡ []) × (next.pc ≡ return_address))

-- A unit goes on one of its ways, calls a function, or returns to its caller.
abbrev pub IsWayOn : Image → CodeUnit → (pc : ℕ) → Linking → (next : ℕ) → Type 0
IsWayOn image unit pc Straight next = Contains (ways_on image unit pc) next
IsWayOn image unit pc (Calls call) next =
    (call ≡ record { site = pc; target = next }) × Contains (called image unit pc) next
IsWayOn image unit pc Returns next = returns unit ≡ true

-- What a step at a unit did.
pub record UnitGoes (image : Image) (unit : CodeUnit) (s next : State) (later : List State) (step : Stepped) : Type 0 where
  pub done : Done
  pub ends : IsDoneBy done next later step
  pub instructions : done.instructions ≡ unit.instr ∷ slot_list unit.slot
  pub touches : option_map (λ (a : Touched). a.store) done.access ≡ last_touch unit.instr unit.slot
  pub low : IsLow done.access
  pub zero : IsZero next.regs
  pub goes : IsWayOn image unit s.pc done.link next.pc

-- How a step that was done ends.
record Ends (done : Done) (t next : State) (later : List State) (step : Stepped) : Type 0 where
  same : t ≡ next
  form : IsDoneBy done next later step

ended-ends : (b : Bool) (done : Done) (t next : State) (later : List State) → (t.pc == return_address) ≡ b →
    Joins (cond b (Returned done t) (Went done t)) next later → Ends done t next later (cond b (Returned done t) (Went done t))
ended-ends true done t next later is joins =
    let place : t.pc ≡ return_address = grind (arith, nat_tests) in
    record {
      same = joins.0;
      form = inr (ap (Returned done) joins.0, joins.1, ap (λ (u : State). u.pc) (sym joins.0) ∙ place);
    }
ended-ends false done t next later is joins = record {
  same = joins;
  form = inl (
    ap (Went done) joins,
    λ place.
        let here : t.pc ≡ return_address = ap (λ (u : State). u.pc) joins ∙ place in absurd (grind (arith, nat_tests)),
  );
}

-- The target recorded for a unit that is done.
recorded-of : (b : Bool) (targets : List ℕ) (done : Done) (t : State) → KeepsTargets targets (cond b (Returned done t) (Went done t)) →
    GoToRecorded targets done.instructions t.pc
recorded-of true targets done t keeps = keeps
recorded-of false targets done t keeps = keeps

-- A plain instruction goes on to the next word.
own-next : (image : Image) (instr : Instr) (pc : ℕ) → is_transfer instr ≡ false → own_ways image instr pc ≡ (pc + 4) ∷ []
own-next image (Three op rd rs rt) pc is = refl
own-next image (Shift op rd rt by) pc is = refl
own-next image (HiLo op number) pc is = refl
own-next image (MulDiv op rs rt) pc is = refl
own-next image (Imm op rt rs imm) pc is = refl
own-next image (Lui rt imm) pc is = refl
own-next image (Load op rt base offset) pc is = refl
own-next image (Store op rt base offset) pc is = refl
own-next image (Stop op code) pc is = refl
own-next image (Branch op rs rt offset) pc is = cc
own-next image (Jump link index) pc is = cc
own-next image (JumpReg rs) pc is = cc
own-next image (JumpLink rd rs) pc is = cc

-- A unit that doesn't stop goes the ways of its instruction and calls what that calls.
ways-own : (image : Image) (unit : CodeUnit) (pc : ℕ) → stops unit ≡ false → ways_on image unit pc ≡ own_ways image unit.instr pc
ways-own image unit pc runs = rw runs refl

called-own : (image : Image) (unit : CodeUnit) (pc : ℕ) → stops unit ≡ false → called image unit pc ≡ callees image unit.instr pc
called-own image unit pc runs = rw runs refl

plain_done-goes : (image : Image) (s : State) (instr : Instr) (e : Effect) (next : State) (later : List State) → is_transfer instr ≡ false →
    IsEffect instr e → Joins (plain_done s instr e) next later →
    UnitGoes image (record { instr = instr; slot = None }) s next later (plain_done s instr e)
plain_done-goes image s instr (Traps kind) next later plain takes joins = absurd joins
plain_done-goes image s instr (Does access t) next later plain takes joins =
    let unit : CodeUnit = record { instr = instr; slot = None } in
    let done : Done = record { instructions = instr ∷ []; access = access; link = Straight } in
    let u : State = record t { pc = s.pc + 4 } in
    let ends = ended-ends (s.pc + 4 == return_address) done u next later refl joins in
    let on : ways_on image unit s.pc ≡ (s.pc + 4) ∷ [] =
    ways-own image unit s.pc (rw takes.goes refl) ∙ own-next image instr s.pc plain in
    let here : Contains (ways_on image unit s.pc) (s.pc + 4) =
    subst (λ (list : List ℕ). Contains list (s.pc + 4)) (sym on) (0, Prim.omega arith, refl) in
    record {
      done = done;
      ends = ends.form;
      instructions = refl;
      touches = takes.touches;
      low = takes.low;
      zero = subst (λ (v : State). IsZero v.regs) ends.same takes.zero;
      goes = subst (λ (v : State). Contains (ways_on image unit s.pc) v.pc) ends.same here;
    }

-- A jump or branch with its slot: it goes its way when the slot's effect has taken place.
by_way : (image : Image) (unit : CodeUnit) (pc : ℕ) (link : Linking) (next : ℕ) → stops unit ≡ false →
    GoesItsWay image unit.instr pc link next → IsWayOn image unit pc link next
by_way image unit pc Straight next runs goes =
    subst (λ (list : List ℕ). Contains list next) (sym (ways-own image unit pc runs)) goes
by_way image unit pc (Calls call) next runs goes =
    (goes.0, subst (λ (list : List ℕ). Contains list next) (sym (called-own image unit pc runs)) goes.1)
by_way image unit pc Returns next runs goes = rw (runs, goes) refl

stop-or : (first second : Bool) → first ≡ false → second ≡ false → (first || second) ≡ false
stop-or true second one two = cc
stop-or false second one two = two

transfer-runs : (instr : Instr) → is_transfer instr ≡ true → is_stop instr ≡ false
transfer-runs (Branch op rs rt offset) is = refl
transfer-runs (Jump link index) is = refl
transfer-runs (JumpReg rs) is = refl
transfer-runs (JumpLink rd rs) is = refl
transfer-runs (Three op rd rs rt) is = refl
transfer-runs (Shift op rd rt by) is = refl
transfer-runs (HiLo op number) is = refl
transfer-runs (MulDiv op rs rt) is = refl
transfer-runs (Imm op rt rs imm) is = refl
transfer-runs (Lui rt imm) is = refl
transfer-runs (Load op rt base offset) is = refl
transfer-runs (Store op rt base offset) is = refl
transfer-runs (Stop op code) is = cc

slot_done-goes : (image : Image) (s : State) (instr : Instr) (way : Decided) (slot : Instr) (e : Effect) (next : State) (later : List State) →
    is_transfer instr ≡ true → IsEffect slot e → IsZero s.regs → decided instr s.pc s.regs ≡ Some way →
    KeepsTargets (targets_at image s.pc) (slot_done s instr way slot e) → Joins (slot_done s instr way slot e) next later →
    UnitGoes image (record { instr = instr; slot = Some slot }) s next later (slot_done s instr way slot e)
slot_done-goes image s instr way slot (Traps kind) next later transfer takes zero same keeps joins = absurd joins
slot_done-goes image s instr way slot (Does access t) next later transfer takes zero same keeps joins =
    let unit : CodeUnit = record { instr = instr; slot = Some slot } in
    let done : Done = record { instructions = instr ∷ slot ∷ []; access = access; link = way.link } in
    let u : State = record t { pc = way.next } in
    let ends = ended-ends (way.next == return_address) done u next later refl joins in
    let runs : stops unit ≡ false = stop-or (is_stop instr) (is_stop slot) (transfer-runs instr transfer) takes.goes in
    let recorded = recorded-of (way.next == return_address) (targets_at image s.pc) done u keeps in
    let goes = decided-goes image instr s.pc s.regs way zero recorded.0 same in
    let on : IsWayOn image unit s.pc way.link way.next = by_way image unit s.pc way.link way.next runs goes in
    record {
      done = done;
      ends = ends.form;
      instructions = refl;
      touches = takes.touches;
      low = takes.low;
      zero = subst (λ (v : State). IsZero v.regs) ends.same takes.zero;
      goes = subst (λ (v : State). IsWayOn image unit s.pc way.link v.pc) ends.same on;
    }

some-way : (o : Option Decided) → is_some o ≡ true → (way : Decided) × (o ≡ Some way)
some-way None is = cc
some-way (Some way) is = (way, refl)

no-way : (o : Option Decided) → is_some o ≡ false → o ≡ None
no-way None is = refl
no-way (Some way) is = cc

plain-step : (code : ℕ → Option ℕ) (s : State) (instr : Instr) → fetched code s.pc ≡ Found instr → is_transfer instr ≡ false →
    value_step code s ≡ plain_done s instr (effect instr s)
plain-step code s instr there plain =
    ap (unit_fetched code s) there
    ∙ ap (unit_of code s instr) (no-way (decided instr s.pc s.regs) (is_some-decided instr s.pc s.regs ∙ plain))

slot-step : (code : ℕ → Option ℕ) (s : State) (instr slot : Instr) (way : Decided) → fetched code s.pc ≡ Found instr →
    decided instr s.pc s.regs ≡ Some way → fetched code (s.pc + 4) ≡ Found slot → is_transfer slot ≡ false →
    value_step code s ≡ slot_done s instr way slot (effect slot (record s { regs = way.regs }))
slot-step code s instr slot way there same found plain =
    ap (unit_fetched code s) there
    ∙ ap (unit_of code s instr) same
    ∙ ap (slot_fetched s instr way) found
    ∙ ap (λ (b : Bool). cond b (Trapped Unknown (s.pc + 4)) (slot_done s instr way slot (effect slot (record s { regs = way.regs }))))
    (is_some-decided slot (s.pc + 4) s.regs ∙ plain)

-- A step at a unit of the program, where register 0 is 0 and an indirect transfer goes to a recorded target.
pub unit-goes : (image : Image) (unit : CodeUnit) (s next : State) (later : List State) →
    unit_at image s.pc ≡ Stands unit → IsZero s.regs →
    KeepsTargets (targets_at image s.pc) (value_step (code_at image.segments) s) →
    Joins (value_step (code_at image.segments) s) next later →
    UnitGoes image unit s next later (value_step (code_at image.segments) s)
unit-goes image unit s next later stands zero keeps joins = by_slot unit.slot refl where
  is : IsFetched (code_at image.segments) s.pc unit
  is = IsFetched-unit image s.pc unit (unit-content image s.pc unit stands)

  by_slot : (slot : Option Instr) → unit.slot ≡ slot → UnitGoes image unit s next later (value_step (code_at image.segments) s)
  by_slot None none =
      let whole : (record { instr = unit.instr; slot = None }) ≡ unit =
      ap (λ (o : Option Instr). record { instr = unit.instr; slot = o }) (sym none) in
      let plain : is_transfer unit.instr ≡ false =
      subst (λ (o : Option Instr). HasSlot (code_at image.segments) s.pc unit.instr o) none is.slot in
      let e = plain-step (code_at image.segments) s unit.instr is.instr plain in
      let goes = plain_done-goes image s unit.instr (effect unit.instr s) next later plain (effect-takes unit.instr s zero)
      (subst (λ (step : Stepped). Joins step next later) e joins) in
      subst (λ (u : CodeUnit). UnitGoes image u s next later (value_step (code_at image.segments) s)) whole
      (subst (λ (step : Stepped). UnitGoes image (record { instr = unit.instr; slot = None }) s next later step) (sym e) goes)
  by_slot (Some slot) some =
      let whole : (record { instr = unit.instr; slot = Some slot }) ≡ unit =
      ap (λ (o : Option Instr). record { instr = unit.instr; slot = o }) (sym some) in
      let facts = subst (λ (o : Option Instr). HasSlot (code_at image.segments) s.pc unit.instr o) some is.slot in
      let way = some-way (decided unit.instr s.pc s.regs) (is_some-decided unit.instr s.pc s.regs ∙ facts.0) in
      let e = slot-step (code_at image.segments) s unit.instr slot way.0 is.instr way.1 facts.1 facts.2 in
      let zero' : IsZero way.0.regs = decided-zero unit.instr s.pc s.regs way.0 zero way.1 in
      let goes = slot_done-goes image s unit.instr way.0 slot (effect slot (record s { regs = way.0.regs })) next later facts.0
      (effect-takes slot (record s { regs = way.0.regs }) zero') zero way.1
      (subst (λ (step : Stepped). KeepsTargets (targets_at image s.pc) step) e keeps)
      (subst (λ (step : Stepped). Joins step next later) e joins) in
      subst (λ (u : CodeUnit). UnitGoes image u s next later (value_step (code_at image.segments) s)) whole
      (subst (λ (step : Stepped). UnitGoes image (record { instr = unit.instr; slot = Some slot }) s next later step) (sym e) goes)
