-- A place that is no header passes by; a header takes a turn, or breaks the bound.
use Rattle.std.proofs.Common.{ℕ, get_or, ◌-◌, refl, sym, subst}
use Rattle.flow_net.specs.declared.net.LoopInst.{LoopInst}
use Rattle.flow_net.specs.declared.net.Place.{Place}
use Rattle.image_run.specs.Turns.{IsNoTurn, IsTurn}
use Rattle.image_run.proofs.Headed.{inst-read, left-read, other-away, place-read, run-away, scope-number, visit-over, visit-past, visit-turn}
use Rattle.image_run.proofs.turns.Turns.visit.Goals as goal

pub returns-then-scope-eq0-clause-kept : goal.returns-then-scope-eq0-clause-kept
returns-then-scope-eq0-clause-kept c =
    let zeros : Place = record { context = 0; address = 0; scope = 0 } in
    let place : Place = get_or c.as_slice.result.now (c.args.place - 1) zeros in
    let there = place-read c.args.net.now c.args.place c.as_slice.result.now zeros c.requires.place c.as_slice.ensures in
    visit-past c.args.net.now c.requires.nested c.args.place place there c.args.self.now _ refl refl
    (run-away c.args.net.now place.scope c.args.place c.if-scope-eq0.true)

pub returns-then-inst-place-clause-kept : goal.returns-then-inst-place-clause-kept
returns-then-inst-place-clause-kept c =
    let zeros : Place = record { context = 0; address = 0; scope = 0 } in
    let none : LoopInst = record { header = 0; bound = 0; outer = 0 } in
    let place : Place = get_or c.as_slice.result.now (c.args.place - 1) zeros in
    let there = place-read c.args.net.now c.args.place c.as_slice.result.now zeros c.requires.place c.as_slice.ensures in
    let inst : LoopInst = get_or c.as_slice-2.result.now (place.scope - 1) none in
    let at = inst-read c.args.net.now place.scope c.as_slice-2.result.now none
    (scope-number c.args.net.now c.requires.nested c.args.place place there) c.if-scope-eq0.false c.as_slice-2.ensures in
    visit-past c.args.net.now c.requires.nested c.args.place place there c.args.self.now _ refl refl
    (other-away c.args.net.now place.scope c.args.place inst at c.if-inst-place.true)

pub returns-in-Some-clause-kept : goal.returns-in-Some-clause-kept
returns-in-Some-clause-kept c =
    let zeros : Place = record { context = 0; address = 0; scope = 0 } in
    let none : LoopInst = record { header = 0; bound = 0; outer = 0 } in
    let place : Place = get_or c.as_slice.result.now (c.args.place - 1) zeros in
    let there = place-read c.args.net.now c.args.place c.as_slice.result.now zeros c.requires.place c.as_slice.ensures in
    let inst : LoopInst = get_or c.as_slice-2.result.now (place.scope - 1) none in
    let at = inst-read c.args.net.now place.scope c.as_slice-2.result.now none
    (scope-number c.args.net.now c.requires.nested c.args.place place there) c.if-scope-eq0.false c.as_slice-2.ensures in
    visit-turn c.args.net.now c.requires.nested c.args.place place there inst at (sym c.if-inst-place.false) c.args.self.now _ c.in-Some.left
    c.requires.sized refl refl
    (subst (λ (left : ℕ). IsTurn c.args.net.now place.scope inst c.args.self.now.from left c.in-Some.left)
    (left-read c.args.net.now c.args.self.now place.scope c.index.result.now c.requires.sized
    (scope-number c.args.net.now c.requires.nested c.args.place place there) c.index.ensures) c.in-Some.ensures.some)

pub returns-in-None-clause-broken : goal.returns-in-None-clause-broken
returns-in-None-clause-broken c =
    let zeros : Place = record { context = 0; address = 0; scope = 0 } in
    let none : LoopInst = record { header = 0; bound = 0; outer = 0 } in
    let place : Place = get_or c.as_slice.result.now (c.args.place - 1) zeros in
    let there = place-read c.args.net.now c.args.place c.as_slice.result.now zeros c.requires.place c.as_slice.ensures in
    let inst : LoopInst = get_or c.as_slice-2.result.now (place.scope - 1) none in
    let at = inst-read c.args.net.now place.scope c.as_slice-2.result.now none
    (scope-number c.args.net.now c.requires.nested c.args.place place there) c.if-scope-eq0.false c.as_slice-2.ensures in
    visit-over c.args.net.now c.requires.nested c.args.place place there inst at (sym c.if-inst-place.false) c.args.self.now
    (subst (λ (left : ℕ). IsNoTurn c.args.net.now place.scope inst c.args.self.now.from left)
    (left-read c.args.net.now c.args.self.now place.scope c.index.result.now c.requires.sized
    (scope-number c.args.net.now c.requires.nested c.args.place place there) c.index.ensures) c.in-None.ensures.none)
