use Rattle.std.proofs.Common.{ℕ, List, ◌-◌, ◌<◌, get_or, length, subst, arith}
use Rattle.std.proofs.lemmas.Option.{slice_get-get_or}
use Rattle.step_table.specs.Rings.{Opens}
use Rattle.step_table.proofs.Leaving.{opens_kept, opens_less, opens_next}
use Rattle.step_table.proofs.finishing.look_on.Goals as goal

pub returns-clause-depth : goal.returns-clause-depth
returns-clause-depth c order depth =
    let now = get_or c.args.ahead.now c.args.last 0 - 1 in
    let steps = c.steps_at.result.now in
    let next = get_or steps now 0 in
    opens_next c.args.table.now order c.args.seen.now c.args.ahead.now c.args.trail.now.items c.args.last now next steps
    c.open.new.seen c.open.new.trail.items c.requires.within c.requires.there c.steps_at.ensures.there
    (omega (arith, c.requires.some))
    (slice_get-get_or steps now 0 (omega (arith, c.requires.some, c.requires.bound steps c.steps_at.ensures.there)))
    (subst (λ (trail : List ℕ). Opens next c.args.seen.now trail c.open.new.seen c.open.new.trail.items)
    c.in_ok-push.ensures.items c.in_ok-open.ensures)
    depth

pub returns-clause-kept : goal.returns-clause-kept
returns-clause-kept c =
    let now = get_or c.args.ahead.now c.args.last 0 - 1 in
    let steps = c.steps_at.result.now in
    let less : now < length steps = omega (arith, c.requires.some, c.requires.bound steps c.steps_at.ensures.there) in
    opens_kept (get_or steps now 0) c.args.seen.now c.push.new.self.items c.open.new.seen c.open.new.trail.items
    (omega (arith, c.requires.sized, c.steps_at.ensures.within now 0 less)) c.in_ok-open.ensures

pub returns-clause-less : goal.returns-clause-less
returns-clause-less c =
    let now = get_or c.args.ahead.now c.args.last 0 - 1 in
    let steps = c.steps_at.result.now in
    let next = get_or steps now 0 in
    let less : now < length steps = omega (arith, c.requires.some, c.requires.bound steps c.steps_at.ensures.there) in
    opens_less c.args.seen.now c.args.ahead.now c.args.trail.now.items c.args.last now next c.open.new.seen
    c.open.new.trail.items (omega (arith, c.requires.counted, c.requires.there))
    (omega (arith, c.requires.sized, c.steps_at.ensures.within now 0 less)) (omega (arith, c.requires.some))
    (subst (λ (trail : List ℕ). Opens next c.args.seen.now trail c.open.new.seen c.open.new.trail.items)
    c.in_ok-push.ensures.items c.in_ok-open.ensures)
