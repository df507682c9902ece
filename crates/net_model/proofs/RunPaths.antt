-- Every run of a program whose indirect transfers go to recorded targets and which returns to its callers goes along
-- a path of the net, and at each place of it does the unit that stands there.
use Rattle.std.proofs.Common.{◌≡◌, ℕ, ◌+◌, ◌<◌, ◌≤◌, ◌&&◌, ◌⊎◌, inl, inr, Bool, true, false, List, [], ◌∷◌, ◌++◌, All, Contains, Option, None, Some, refl, ap, sym, subst, ◌∙◌, arith}
use Rattle.std.specs.Prelude.{find, option_map}
use Rattle.std.specs.List.{AllZip, filter}
use Rattle.std.proofs.lemmas.Bool.Decides.{nat_tests}
use Rattle.std.proofs.lemmas.List.Elements.{All-append, All-cons, All-head, All-nil, All-tail}
use Rattle.std.proofs.lemmas.Option.{same_Some}
use Rattle.elf_mips.specs.declared.image.Image.{Image}
use Rattle.elf_mips.specs.declared.segment.Segment.{Segment}
use Rattle.elf_mips.specs.Segments.{EndsLow, code_at, holds, is_code}
use Rattle.flow_net.specs.Numbers.{item_at}
use Rattle.flow_net.specs.Paths.{IsPath}
use Rattle.flow_net.specs.Visits.{target_of, targets_along}
use Rattle.flow_net.specs.declared.net.Context.{Context}
use Rattle.flow_net.specs.declared.net.Net.{Net}
use Rattle.flow_net.specs.declared.net.NetArc.{NetArc}
use Rattle.flow_net.proofs.Numbers.{item_at-all, item_at-within}
use Rattle.mips_decode.specs.Accesses.{UnitAccess, accesses_by, accesses_of, goes_through}
use Rattle.mips_decode.specs.Calls.{GoesBack, ReturnsToCaller, calls_after, calls_after_link}
use Rattle.mips_decode.specs.Records.{KeepsTargets}
use Rattle.mips_decode.specs.Run.{IsRun, last_state}
use Rattle.mips_decode.specs.State.{State, return_address}
use Rattle.mips_decode.specs.Step.{Done, Stepped, Went, Returned, value_step}
use Rattle.mips_decode.specs.Transfer.{Call, Linking, Straight, Calls, Returns}
use Rattle.mips_decode.specs.Units.{KeepTargets, ReturnsToCallers, RunUnit, next_address, stand_after, units_from}
use Rattle.mips_decode.specs.declared.step.Touched.{Touched}
use Rattle.net_model.specs.declared.unit.CodeUnit.{CodeUnit}
use Rattle.net_model.specs.declared.unit.Content.TheVariants.{Unit as Stands}
use Rattle.net_model.specs.Contexts.{IsContextOf, Reaches, made_by, root}
use Rattle.net_model.specs.Flow.{called, ways_on}
use Rattle.net_model.specs.Functions.{CanReturn, GoesOn, IsReached, back, first, next, onward, returned}
use Rattle.net_model.specs.Moments.{Moment, Takes, VisitNone, VisitsNone, arcs_of}
use Rattle.net_model.specs.Net.{HasUnits, IsNet, IsUnitOf, LeadsOn, LeadsTo, calls as leads_in, comes_back, ends, goes}
use Rattle.net_model.specs.Onward.{returns}
use Rattle.net_model.specs.Places.{IsPlaceOf}
use Rattle.net_model.specs.Walks.{WalksOn, access_numbers, own_range}
use Rattle.net_model.specs.Runs.{AreMoments, GoesAlong, IsKeptRun, IsPlaceFor, IsUnitTold, StandsAt, numbered_accesses}
use Rattle.net_model.specs.Targets.{targets_at, unit_at}
use Rattle.net_model.proofs.Contents.{IsFetched-unit, unit-content}
use Rattle.net_model.proofs.Steps.{IsDoneBy, IsWayOn, UnitGoes, last_touch, slot_list, unit-goes}
use Rattle.net_model.proofs.UnitAccesses.{AreMade, unit-made}
use Rattle.net_model.proofs.Zero.{IsLow, IsZero}

place-positive : (net : Net) (n context address : ℕ) → IsPlaceOf net n context address → 0 < n
place-positive net n context address at = (item_at-within net.places n at.place at.there).from_one

-- No segment holds a word at the place of return, so no unit stands there.
none-there : (test : Segment → Bool) (segments : List Segment) → All EndsLow segments →
    find (λ (s : Segment). holds 4 return_address s && test s) segments ≡ None
none-there test [] low = refl
none-there test (segment ∷ more) low =
    let end : segment.address + segment.size ≤ return_address = All-head EndsLow segment more low in
    let out : holds 4 return_address segment ≡ false = grind (arith, nat_tests) in
    rw out (none-there test more (All-tail EndsLow segment more low))

no-unit-there : (image : Image) (unit : CodeUnit) → unit_at image return_address ≡ Stands unit → ⊥
no-unit-there image unit standing =
    let fetched = (IsFetched-unit image return_address unit (unit-content image return_address unit standing)).instr in
    let none : code_at image.segments return_address ≡ None = rw (none-there is_code image.segments image.low) refl in
    let no = ap (λ (o : Option ℕ). o) none in cc

-- A unit stands at each address that a context's function reaches.
unit-of : (image : Image) (entry : ℕ) (net : Net) → IsNet image entry net → HasUnits image net → (context address : ℕ) →
    Reaches image net.contexts context address → (unit : CodeUnit) × (unit_at image address ≡ Stands unit)
unit-of image entry net is units context address reaches =
    let place = is.places.whole context address reaches in
    let unit = item_at-all (IsUnitOf image) net.places place.0 place.1.place units place.1.there in
    (unit.unit, ap (unit_at image) (sym place.1.same) ∙ unit.stands)

elsewhere : (image : Image) (entry : ℕ) (net : Net) → IsNet image entry net → HasUnits image net → (context address : ℕ) →
    Reaches image net.contexts context address → address ≡ return_address → ⊥
elsewhere image entry net is units context address reaches same =
    let unit = unit-of image entry net is units context return_address (subst (Reaches image net.contexts context) same reaches) in
    no-unit-there image unit.0 unit.1

-- Where a run stands: the context of its open calls reaches the address of its next unit, which has this place.
pub record IsAt (image : Image) (net : Net) (open_calls : List Call) (address number : ℕ) : Type 0 where
  pub context : ℕ
  pub by : IsContextOf net.contexts open_calls context
  pub reaches : Reaches image net.contexts context address
  pub at : IsPlaceOf net number context address

place-for : (image : Image) (net : Net) (open_calls : List Call) (address number : ℕ) → IsAt image net open_calls address number →
    IsPlaceFor net (record { calls = open_calls; address = address }) number
place-for image net open_calls address number here = record { context = here.context; by = here.by; at = here.at }

stands-at : (image : Image) (entry : ℕ) (net : Net) → IsNet image entry net → HasUnits image net →
    (open_calls : List Call) (address number : ℕ) → IsAt image net open_calls address number →
    StandsAt net (record { calls = open_calls; address = address }) number
stands-at image entry net is units open_calls address number here = record {
  returned = λ same. absurd (elsewhere image entry net is units here.context address here.reaches same);
  within = λ other. place-for image net open_calls address number here;
}

leads-on : (image : Image) (net : Net) (from to context address : ℕ) (unit : CodeUnit) → IsPlaceOf net from context address →
    unit_at image address ≡ Stands unit → LeadsTo image net unit context address to → LeadsOn image net from to
leads-on image net from to context address unit at standing leads = record {
  place = at.place;
  there = at.there;
  unit = unit;
  stands = ap (unit_at image) at.same ∙ standing;
  leads = subst (λ (c : ℕ). LeadsTo image net unit c at.place.address to) (sym at.within)
      (subst (λ (a : ℕ). LeadsTo image net unit context a to) (sym at.same) leads);
}

-- A unit that was done leads to the place where the run standing then, or the entry returned and the run ends.
record GoesTo (image : Image) (net : Net) (from : ℕ) (open_calls : List Call) (address : ℕ) : Type 0 where
  number : ℕ
  leads : LeadsOn image net from number
  at : IsAt image net open_calls address number

record EndsAt (image : Image) (net : Net) (from : ℕ) (address : ℕ) : Type 0 where
  leads : LeadsOn image net from 0
  place : address ≡ return_address

abbrev IsNext : Image → Net → (from : ℕ) → List Call → (address : ℕ) → Type 0
IsNext image net from open_calls address = GoesTo image net from open_calls address ⊎ EndsAt image net from address

module _ (image : Image) (entry : ℕ) (net : Net) (is : IsNet image entry net) where
  -- On a way of the unit, in the same context.
  next-way : (unit : CodeUnit) (open_calls : List Call) (from address later : ℕ) → IsAt image net open_calls address from →
      unit_at image address ≡ Stands unit → Contains (ways_on image unit address) later → GoesTo image net from open_calls later
  next-way unit open_calls from address later here standing way =
      let reaches : Reaches image net.contexts here.context later = record {
        context = here.reaches.context;
        there = here.reaches.there;
        reached = next here.reaches.context.target address later here.reaches.reached (onward address later unit standing way);
      } in
      let place = is.places.whole here.context later reaches in
      record {
        number = place.0;
        leads = leads-on image net from place.0 here.context address unit here.at standing (goes place.0 later way place.1);
        at = record { context = here.context; by = here.by; reaches = reaches; at = place.1 };
      }

  -- To the entry of a called function, in the context that the call makes.
  next-call : (unit : CodeUnit) (open_calls : List Call) (from address callee : ℕ) → IsAt image net open_calls address from →
      unit_at image address ≡ Stands unit → Contains (called image unit address) callee →
      GoesTo image net from (record { site = address; target = callee } ∷ open_calls) callee
  next-call unit open_calls from address callee here standing calling =
      let call : Call = record { site = address; target = callee } in
      let made = is.contexts.whole here.context address callee here.reaches
      (record { unit = unit; stands = standing; called = calling }) in
      let reaches : Reaches image net.contexts made.0 callee = record {
        context = made_by here.context address callee;
        there = made.2;
        reached = first callee;
      } in
      let place = is.places.whole made.0 callee reaches in
      record {
        number = place.0;
        leads = leads-on image net from place.0 here.context address unit here.at standing
            (leads_in place.0 made.0 callee calling made.1 made.2 place.1);
        at = record { context = made.0; by = (made.1, (here.context, made.2, here.by)); reaches = reaches; at = place.1 };
      }

  -- Back behind the call that made the context, in the context of the other calls.
  next-back : (unit : CodeUnit) (call : Call) (open_calls : List Call) (from address : ℕ) → IsAt image net (call ∷ open_calls) address from →
      unit_at image address ≡ Stands unit → returns unit ≡ true → GoesTo image net from open_calls (call.site + 8)
  next-back unit call open_calls from address here standing leaves =
      let positive = here.by.0 in
      let parent = here.by.1.0 in
      let there = here.by.1.1 in
      let own : Context = made_by parent call.site call.target in
      let same : here.reaches.context ≡ own = same_Some here.reaches.context own (sym here.reaches.there ∙ there) in
      let made = is.contexts.made here.context own there positive in
      let can : CanReturn image call.target = returned call.target address unit
      (subst (λ (c : Context). IsReached image c.target address) same here.reaches.reached) standing leaves in
      let behind : GoesOn image call.site (call.site + 8) =
      back call.site call.target made.calls.unit made.calls.stands made.calls.called can in
      let reaches : Reaches image net.contexts parent (call.site + 8) = record {
        context = made.there.context;
        there = made.there.there;
        reached = next made.there.context.target call.site (call.site + 8) made.there.reached behind;
      } in
      let place = is.places.whole parent (call.site + 8) reaches in
      record {
        number = place.0;
        leads = leads-on image net from place.0 here.context address unit here.at standing
            (comes_back place.0 own leaves positive there place.1);
        at = record { context = parent; by = here.by.1.2; reaches = reaches; at = place.1 };
      }

  -- From context 0 back to the place of return.
  next-end : (unit : CodeUnit) (from address : ℕ) → IsAt image net [] address from →
      unit_at image address ≡ Stands unit → returns unit ≡ true → EndsAt image net from return_address
  next-end unit from address here standing leaves =
      record { leads = leads-on image net from 0 here.context address unit here.at standing (ends leaves here.by); place = refl }

  next-by : (unit : CodeUnit) (open_calls : List Call) (from address later : ℕ) → IsAt image net open_calls address from →
      unit_at image address ≡ Stands unit → (link : Linking) → IsWayOn image unit address link later → GoesBack open_calls link later →
      IsNext image net from (calls_after_link open_calls link) later
  next-by unit open_calls from address later here standing Straight way back_to =
      inl (next-way unit open_calls from address later here standing way)
  next-by unit open_calls from address later here standing (Calls call) way back_to =
      inl (subst (λ (c : Call). GoesTo image net from (c ∷ open_calls) later) (sym way.0)
      (next-call unit open_calls from address later here standing way.1))
  next-by unit [] from address later here standing Returns way back_to =
      inr (subst (EndsAt image net from) (sym back_to) (next-end unit from address here standing way))
  next-by unit (call ∷ open_calls) from address later here standing Returns way back_to =
      inl (subst (GoesTo image net from open_calls) (sym back_to) (next-back unit call open_calls from address here standing way))

-- What the step says by its call or return.
after-link : (open_calls : List Call) (done : Done) (t : State) (later : List State) (step : Stepped) → IsDoneBy done t later step →
    calls_after open_calls step ≡ calls_after_link open_calls done.link
after-link open_calls done t later step (inl went) = ap (calls_after open_calls) went.0
after-link open_calls done t later step (inr ended) = ap (calls_after open_calls) ended.0

back-link : (open_calls : List Call) (done : Done) (t : State) (later : List State) (step : Stepped) → IsDoneBy done t later step →
    ReturnsToCaller open_calls step → GoesBack open_calls done.link t.pc
back-link open_calls done t later step (inl went) back_to = subst (ReturnsToCaller open_calls) went.0 back_to
back-link open_calls done t later step (inr ended) back_to = subst (ReturnsToCaller open_calls) ended.0 back_to

-- At the place of return the run ends.
ends-there : (done : Done) (t : State) (later : List State) (step : Stepped) → IsDoneBy done t later step →
    t.pc ≡ return_address → later ≡ []
ends-there done t later step (inl went) place = absurd (went.1 place)
ends-there done t later step (inr ended) place = ended.1

next-pc : (address : ℕ) (done : Done) (t : State) (later : List State) (step : Stepped) → IsDoneBy done t later step →
    next_address address step ≡ t.pc
next-pc address done t later step (inl went) = ap (next_address address) went.0
next-pc address done t later step (inr ended) = ap (next_address address) ended.0

accesses-done : (address : ℕ) (done : Done) (t : State) (later : List State) (step : Stepped) → IsDoneBy done t later step →
    accesses_by address step ≡ accesses_of address done
accesses-done address done t later step (inl went) = ap (accesses_by address) went.0
accesses-done address done t later step (inr ended) = ap (accesses_by address) ended.0

went-by : (done : Done) (t : State) (later : List State) (step : Stepped) → IsDoneBy done t later step →
    (step ≡ Went done t) ⊎ (step ≡ Returned done t)
went-by done t later step (inl went) = inl went.0
went-by done t later step (inr ended) = inr ended.0

-- A unit that a run did is the one that stands at the place.
pub record IsDoneAt (image : Image) (net : Net) (did : RunUnit) (number : ℕ) : Type 0 where
  pub at : IsPlaceFor net did.at number
  pub unit : CodeUnit
  pub stands : unit_at image did.at.address ≡ Stands unit
  pub done : Done
  pub next : State
  pub step : (did.step ≡ Went done next) ⊎ (did.step ≡ Returned done next)
  pub instructions : done.instructions ≡ unit.instr ∷ slot_list unit.slot
  pub touches : option_map (λ (a : Touched). a.store) done.access ≡ last_touch unit.instr unit.slot
  pub low : IsLow done.access

-- A path from the place where a run stands, with the moments along it and the places of the units that are done.
pub record IsAlong (image : Image) (net : Net) (code : ℕ → Option ℕ) (open_calls : List Call) (s : State) (states : List State) (number : ℕ) : Type 0 where
  pub moments : List Moment
  pub to : ℕ
  pub path : IsPath net.arcs number (arcs_of moments) to
  pub units : AreMoments net number (units_from code open_calls s states) moments
  pub uncached : VisitNone moments
  pub walk : WalksOn net (own_range net) number (access_numbers net number) moments
  pub places : List ℕ
  pub done : AllZip (IsDoneAt image net) (units_from code open_calls s states) places
  pub along : number ∷ targets_along net.arcs (arcs_of moments) ≡ places ++ to ∷ []
  pub ended : (last_state s states).pc ≡ return_address → to ≡ 0

stays : (image : Image) (net : Net) (code : ℕ → Option ℕ) (open_calls : List Call) (s : State) (number : ℕ) →
    (s.pc ≡ return_address → number ≡ 0) → IsAlong image net code open_calls s [] number
stays image net code open_calls s number ended = record {
  moments = [];
  to = number;
  path = refl;
  units = refl;
  uncached = All-nil VisitsNone;
  walk = tt;
  places = [];
  done = tt;
  along = refl;
  ended = ended;
}

returned-at : (image : Image) (net : Net) (code : ℕ → Option ℕ) (open_calls : List Call) (t : State) (later : List State) → later ≡ [] →
    t.pc ≡ return_address → IsAlong image net code open_calls t later 0
returned-at image net code open_calls t later none place =
    subst (λ (states : List State). IsAlong image net code open_calls t states 0) (sym none)
    (stays image net code open_calls t 0 (λ same. refl))

-- Where a unit led.
record IsLed (image : Image) (net : Net) (open_calls : List Call) (address from to : ℕ) : Type 0 where
  leads : LeadsOn image net from to
  stand : StandsAt net (record { calls = open_calls; address = address }) to

module _ (image : Image) (entry : ℕ) (net : Net) (is : IsNet image entry net) (units : HasUnits image net) where
  -- One unit before the rest.
  longer : (open_calls : List Call) (s t : State) (later : List State) (from to : ℕ) → IsAt image net open_calls s.pc from →
      (unit : CodeUnit) → unit_at image s.pc ≡ Stands unit →
      (did : UnitGoes image unit s t later (value_step (code_at image.segments) s)) →
      IsLed image net (calls_after open_calls (value_step (code_at image.segments) s)) t.pc from to →
      IsAlong image net (code_at image.segments) (calls_after open_calls (value_step (code_at image.segments) s)) t later to →
      IsAlong image net (code_at image.segments) open_calls s (t ∷ later) from
  longer open_calls s t later from to here unit standing did led rest =
      let step : Stepped = value_step (code_at image.segments) s in
      let run_unit : RunUnit = record { at = record { calls = open_calls; address = s.pc }; step = step } in
      let arc = is.arcs.arcs from to led.leads in
      let fetched = IsFetched-unit image s.pc unit (unit-content image s.pc unit standing) in
      let made : AreMade net from (numbered_accesses run_unit) (access_numbers net from) =
      subst (λ (all : List UnitAccess). AreMade net from (filter (λ (access : UnitAccess). goes_through access.kind) all) (access_numbers net from))
      (sym (accesses-done s.pc did.done t later step did.ends))
      (unit-made image (code_at image.segments) net from s.pc here.at.place unit did.done is.accesses here.at.there here.at.same
      standing fetched.slot did.instructions did.touches did.low) in
      let moments : List Moment = made.moments ++ Takes arc.0 ∷ rest.moments in
      let numbers : arcs_of moments ≡ arc.0 ∷ arcs_of rest.moments = made.quiet (Takes arc.0 ∷ rest.moments) in
      let after : StandsAt net (stand_after run_unit) to =
      subst (λ (a : ℕ). StandsAt net (record { calls = calls_after open_calls step; address = a }) to)
      (sym (next-pc s.pc did.done t later step did.ends)) led.stand in
      let told : IsUnitTold net from run_unit made.moments arc.0 to = record {
        before = stands-at image entry net is units open_calls s.pc from here;
        accesses = made.made;
        positive = place-positive net from here.context s.pc here.at;
        arc = record { from = from; to = to };
        there = arc.2;
        leaves = refl;
        leads = refl;
        after = after;
      } in
      let next : targets_along net.arcs (arc.0 ∷ arcs_of rest.moments) ≡ to ∷ targets_along net.arcs (arcs_of rest.moments) =
      ap (λ (n : ℕ). n ∷ targets_along net.arcs (arcs_of rest.moments)) (ap target_of arc.2) in
      record {
        moments = moments;
        to = rest.to;
        path = subst (λ (ns : List ℕ). IsPath net.arcs from ns rest.to) (sym numbers)
            (told.positive, (record { from = from; to = to }, arc.2, refl, rest.path));
        units = (made.moments, (arc.0, (to, (rest.moments, told, refl, rest.units))));
        uncached = All-append VisitsNone made.moments (Takes arc.0 ∷ rest.moments) made.uncached
            (All-cons VisitsNone (Takes arc.0) rest.moments tt rest.uncached);
        walk = made.walks (Takes arc.0 ∷ rest.moments)
            (refl, (told.positive, (record { from = from; to = to }, arc.2, refl, rest.walk)));
        places = from ∷ rest.places;
        done = (
          record {
            at = place-for image net open_calls s.pc from here;
            unit = unit;
            stands = standing;
            done = did.done;
            next = t;
            step = went-by did.done t later step did.ends;
            instructions = did.instructions;
            touches = did.touches;
            low = did.low;
          },
          rest.done,
        );
        along = ap (λ (ns : List ℕ). from ∷ targets_along net.arcs ns) numbers
            ∙ ap (λ (ns : List ℕ). from ∷ ns) (next ∙ rest.along);
        ended = rest.ended;
      }

  -- The rest of the run from where the unit led.
  onward-from : (open_calls : List Call) (s t : State) (later : List State) (from : ℕ) → IsAt image net open_calls s.pc from →
      (unit : CodeUnit) → unit_at image s.pc ≡ Stands unit →
      (did : UnitGoes image unit s t later (value_step (code_at image.segments) s)) →
      IsNext image net from (calls_after open_calls (value_step (code_at image.segments) s)) t.pc →
      ((number : ℕ) → IsAt image net (calls_after open_calls (value_step (code_at image.segments) s)) t.pc number →
      IsAlong image net (code_at image.segments) (calls_after open_calls (value_step (code_at image.segments) s)) t later number) →
      IsAlong image net (code_at image.segments) open_calls s (t ∷ later) from
  onward-from open_calls s t later from here unit standing did (inl more) rest =
      let after : List Call = calls_after open_calls (value_step (code_at image.segments) s) in
      longer open_calls s t later from more.number here unit standing did
      (record { leads = more.leads; stand = stands-at image entry net is units after t.pc more.number more.at })
      (rest more.number more.at)
  onward-from open_calls s t later from here unit standing did (inr end) rest =
      longer open_calls s t later from 0 here unit standing did
      (record {
        leads = end.leads;
        stand = record { returned = λ same. refl; within = λ other. absurd (other end.place) };
      })
      (returned-at image net (code_at image.segments) (calls_after open_calls (value_step (code_at image.segments) s)) t later
      (ends-there did.done t later (value_step (code_at image.segments) s) did.ends end.place) end.place)

  pub along : (states : List State) (open_calls : List Call) (s : State) (number : ℕ) → IsAt image net open_calls s.pc number →
      IsZero s.regs → IsRun (code_at image.segments) s states →
      KeepTargets (targets_at image) (units_from (code_at image.segments) open_calls s states) →
      ReturnsToCallers (units_from (code_at image.segments) open_calls s states) →
      IsAlong image net (code_at image.segments) open_calls s states number
  along [] open_calls s number here is_zero run targets callers =
      stays image net (code_at image.segments) open_calls s number
      (λ same. absurd (elsewhere image entry net is units here.context s.pc here.reaches same))
  along (t ∷ later) open_calls s number here is_zero run targets callers =
      let step : Stepped = value_step (code_at image.segments) s in
      let run_unit : RunUnit = record { at = record { calls = open_calls; address = s.pc }; step = step } in
      let more : List RunUnit = units_from (code_at image.segments) (calls_after open_calls step) t later in
      let keeps : RunUnit → Type 0 = λ (u : RunUnit). KeepsTargets (targets_at image u.at.address) u.step in
      let returns_to : RunUnit → Type 0 = λ (u : RunUnit). ReturnsToCaller u.at.calls u.step in
      let unit = unit-of image entry net is units here.context s.pc here.reaches in
      let did = unit-goes image unit.0 s t later unit.1 is_zero (All-head keeps run_unit more targets) run.0 in
      let there = next-by image entry net is unit.0 open_calls number s.pc t.pc here unit.1 did.done.link did.goes
      (back-link open_calls did.done t later step did.ends (All-head returns_to run_unit more callers)) in
      let after : IsNext image net number (calls_after open_calls step) t.pc =
      subst (λ (calls : List Call). IsNext image net number calls t.pc) (sym (after-link open_calls did.done t later step did.ends)) there in
      onward-from open_calls s t later number here unit.0 unit.1 did after
      (λ other at. along later (calls_after open_calls step) t other at did.zero run.1
      (All-tail keeps run_unit more targets) (All-tail returns_to run_unit more callers))

-- A kept run begins with arc 1, and goes on from the place of the entry.
pub record IsWholeAlong (image : Image) (entry : ℕ) (net : Net) (s : State) (states : List State) : Type 0 where
  pub arc : NetArc
  pub first : item_at 1 net.arcs ≡ Some arc
  pub outside : arc.from ≡ 0
  pub begins : StandsAt net (record { calls = []; address = s.pc }) arc.to
  pub rest : IsAlong image net (code_at image.segments) [] s states arc.to

pub whole-along : (image : Image) (entry : ℕ) (net : Net) → IsNet image entry net → HasUnits image net →
    (s : State) (states : List State) → IsKeptRun image entry s states → IsWholeAlong image entry net s states
whole-along image entry net is units s states run =
    let arc : NetArc = is.arcs.first.0 in
    let reaches : Reaches image net.contexts 0 entry =
    record { context = root entry; there = is.contexts.first; reached = first entry } in
    let here : IsAt image net [] entry arc.to =
    record { context = 0; by = refl; reaches = reaches; at = is.arcs.first.3 } in
    let there : IsAt image net [] s.pc arc.to = subst (λ (a : ℕ). IsAt image net [] a arc.to) (sym run.begins) here in
    record {
      arc = arc;
      first = is.arcs.first.1;
      outside = is.arcs.first.2;
      begins = stands-at image entry net is units [] s.pc arc.to there;
      rest = along image entry net is units states [] s arc.to there run.zero run.run run.targets run.callers;
    }

-- Every kept run goes along a path of the net.
pub runs-along : (image : Image) (entry : ℕ) (net : Net) → IsNet image entry net → HasUnits image net →
    (s : State) (states : List State) → IsKeptRun image entry s states → GoesAlong net (code_at image.segments) s states
runs-along image entry net is units s states run =
    let whole = whole-along image entry net is units s states run in
    record {
      moments = Takes 1 ∷ whole.rest.moments;
      to = whole.rest.to;
      path = (refl, (whole.arc, whole.first, whole.outside, whole.rest.path));
      units = record {
        arc = whole.arc;
        first = whole.first;
        outside = whole.outside;
        begins = whole.begins;
        rest = whole.rest.moments;
        enters = refl;
        units = whole.rest.units;
      };
      walk = (refl, (whole.arc, whole.first, whole.outside, whole.rest.walk));
      uncached = All-cons VisitsNone (Takes 1) whole.rest.moments tt whole.rest.uncached;
    }
