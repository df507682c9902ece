-- Each arc of the walk is the one chosen at the place to which the last one goes, and there is room to count it.
use Rattle.std.proofs.Common.{◌≡◌, ℕ, ◌+◌, ◌^◌, ◌<◌, false, length, length-set, sym, ap, subst, ◌∙◌, arith}
use Rattle.nest_solver.specs.Nets.{entry}
use Rattle.nest_solver.specs.Plain.{plain}
use Rattle.nest_solver.specs.Shape.{IsUpTo}
use Rattle.nest_solver.specs.Ways.{closes}
use Rattle.nest_solver.proofs.Following.{counts-pass, next-arc, walking-end, walking-more, walking-room_first, walking-room_more, walking-start}
use Rattle.nest_solver.proofs.Plains.{tables-behind, tables-nest}
use Rattle.nest_solver.proofs.Sources.{target-within}
use Rattle.nest_solver.proofs.walk.walk.Goals as goal

pub pass-arc-requires-clause-room : goal.pass-arc-requires-clause-room
pass-arc-requires-clause-room c =
    walking-room_first (plain c.args.net.now c.args.tables.now) c.args.depth (entry c.args.choice.now)
    (entry c.args.counts.now) c.args.from c.args.often
    (tables-nest c.args.net.now c.args.tables.now c.requires.nested c.requires.tables) c.requires.walkable

pub loop-arc-init : goal.loop-arc-init
loop-arc-init c =
    let s = plain c.args.net.now c.args.tables.now in
    let choice = entry c.args.choice.now in
    let chosen = c.pass-arc.ensures.arc in
    let first : IsUpTo s.arcs (choice c.args.from) =
    c.requires.walkable.swept.up c.args.from c.requires.walkable.known in
    record {
      count = omega (
        arith,
        ap length c.pass-arc.ensures.counts,
        length-set c.args.counts.now c.pass-arc.result
            (entry c.args.counts.now c.pass-arc.result + c.args.often),
        c.requires.counts,
      );
      up = omega (arith, chosen, first);
      walking = λ walkable. (
        c.args.from,
        walking-start s c.args.depth choice c.args.from c.args.often (entry c.args.counts.now)
            (entry c.pass-arc.new.counts) c.pass-arc.result chosen
            (λ k u. ap (λ table. entry table k) c.pass-arc.ensures.counts
            ∙ counts-pass c.args.counts.now (choice c.args.from) c.pass-arc.result c.args.often chosen
            (omega (arith, first, c.requires.counts)) k),
        walkable.known,
      );
    }

-- The loop goes on where the arc doesn't end the way.
pub pass-arc-requires-in-loop-arc-clause-place : goal.pass-arc-requires-in-loop-arc-clause-place
pass-arc-requires-in-loop-arc-clause-place c =
    omega (
      arith,
      c.target.ensures,
      target-within c.args.net.now c.requires.nested c.loop-arc.arc c.loop-arc.invariant.up,
      c.requires.choice,
    )

pub pass-arc-requires-in-loop-arc-clause-within : goal.pass-arc-requires-in-loop-arc-clause-within
pass-arc-requires-in-loop-arc-clause-within c =
    let s = plain c.args.net.now c.args.tables.now in
    let choice = entry c.args.choice.now in
    let walkable = c.requires.walkable in
    let walking = c.loop-arc.invariant.walking walkable in
    let ongoing : closes s c.args.depth c.loop-arc.arc ≡ false = sym c.ends.ensures.ends ∙ c.loop-arc-test.true in
    let next = next-arc s c.args.depth walkable.round walkable.weight walkable.best choice c.loop-arc.arc walking.0
    walkable.swept walking.2 walking.1.chosen ongoing in
    omega (arith, ap choice c.target.ensures, next.up, c.loop-arc.invariant.count)

pub pass-arc-requires-in-loop-arc-clause-room : goal.pass-arc-requires-in-loop-arc-clause-room
pass-arc-requires-in-loop-arc-clause-room c =
    let s = plain c.args.net.now c.args.tables.now in
    let choice = entry c.args.choice.now in
    let walkable = c.requires.walkable in
    let walking = c.loop-arc.invariant.walking walkable in
    let ongoing : closes s c.args.depth c.loop-arc.arc ≡ false = sym c.ends.ensures.ends ∙ c.loop-arc-test.true in
    subst (λ (q : ℕ). entry c.loop-arc.counts (choice q) + c.args.often < 2 ^ 64) (sym c.target.ensures)
    (walking-room_more s c.args.depth choice (entry c.args.counts.now) (entry c.loop-arc.counts) c.args.from c.args.often
    c.loop-arc.arc walking.0 (tables-nest c.args.net.now c.args.tables.now c.requires.nested c.requires.tables)
    walkable walking.1 walking.2 ongoing)

pub loop-arc-smaller : goal.loop-arc-smaller
loop-arc-smaller c =
    let s = plain c.args.net.now c.args.tables.now in
    let choice = entry c.args.choice.now in
    let walkable = c.requires.walkable in
    let walking = c.loop-arc.invariant.walking walkable in
    let ongoing : closes s c.args.depth c.loop-arc.arc ≡ false = sym c.ends.ensures.ends ∙ c.loop-arc-test.true in
    let next = next-arc s c.args.depth walkable.round walkable.weight walkable.best choice c.loop-arc.arc walking.0
    walkable.swept walking.2 walking.1.chosen ongoing in
    let behind = tables-behind c.args.net.now c.args.tables.now c.requires.tables in
    let chosen : c.pass-arc-in-loop-arc.result ≡ choice (s.to c.loop-arc.arc) =
    c.pass-arc-in-loop-arc.ensures.arc ∙ ap choice c.target.ensures in
    subst
    (λ (i : ℕ). entry c.args.tables.now.order.positions.items i
    < entry c.args.tables.now.order.positions.items c.loop-arc.arc) (sym chosen)
    (behind.behind c.loop-arc.arc (choice (s.to c.loop-arc.arc)) c.loop-arc.invariant.up next.up next.forward next.to
    next.leaves)

pub loop-arc-preserved : goal.loop-arc-preserved
loop-arc-preserved c =
    let s = plain c.args.net.now c.args.tables.now in
    let choice = entry c.args.choice.now in
    let ongoing : closes s c.args.depth c.loop-arc.arc ≡ false = sym c.ends.ensures.ends ∙ c.loop-arc-test.true in
    let chosen : c.pass-arc-in-loop-arc.result ≡ choice (s.to c.loop-arc.arc) =
    c.pass-arc-in-loop-arc.ensures.arc ∙ ap choice c.target.ensures in
    let mine = c.loop-arc.invariant.walking c.requires.walkable in
    let next = next-arc s c.args.depth c.requires.walkable.round c.requires.walkable.weight c.requires.walkable.best choice
    c.loop-arc.arc mine.0 c.requires.walkable.swept mine.2 mine.1.chosen ongoing in
    record {
      count = omega (
        arith,
        ap length c.pass-arc-in-loop-arc.ensures.counts,
        length-set c.loop-arc.counts c.pass-arc-in-loop-arc.result
            (entry c.loop-arc.counts c.pass-arc-in-loop-arc.result + c.args.often),
        c.loop-arc.invariant.count,
      );
      up = omega (arith, chosen, next.up);
      walking = λ walkable.
          let walking = c.loop-arc.invariant.walking walkable in
          let onward = next-arc s c.args.depth walkable.round walkable.weight walkable.best choice c.loop-arc.arc
          walking.0 walkable.swept walking.2 walking.1.chosen ongoing in (
            s.to c.loop-arc.arc,
            walking-more s c.args.depth choice c.args.from c.args.often (entry c.args.counts.now)
                (entry c.loop-arc.counts) (entry c.pass-arc-in-loop-arc.new.counts) c.loop-arc.arc walking.0
                c.pass-arc-in-loop-arc.result walking.1 ongoing chosen
                (λ k u. ap (λ table. entry table k) c.pass-arc-in-loop-arc.ensures.counts
                ∙ counts-pass c.loop-arc.counts (choice (s.to c.loop-arc.arc)) c.pass-arc-in-loop-arc.result c.args.often
                chosen (omega (arith, onward.up, c.loop-arc.invariant.count)) k),
            onward.known,
          );
    }

pub returns : goal.returns
returns c =
    let s = plain c.args.net.now c.args.tables.now in
    let walking = c.loop-arc.invariant.walking c.requires.walkable in
    record {
      walked = walking-end s c.args.depth (entry c.args.choice.now) c.args.from c.args.often (entry c.args.counts.now)
          (entry c.loop-arc.counts) c.loop-arc.arc walking.0 walking.1
          (sym c.ends.ensures.ends ∙ c.loop-arc-test.false);
    }
