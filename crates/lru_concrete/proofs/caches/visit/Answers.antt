-- One cache more, which is passed, or touched, or holds the block.
use Rattle.std.proofs.Common.{refl, sym, arith}
use Rattle.lru_concrete.specs.Chains.{held_of}
use Rattle.lru_concrete.proofs.Walking.{length-contents, same-touched, walked-by, walked-miss, visit-hit, after-hit, visit-end, after-end}
use Rattle.lru_concrete.proofs.caches.visit.Goals as goal
use Rattle.lru_concrete.proofs.caches.visit.Goals.{then-serves+else-touch, else-serves}

pub bounds-caches-i : goal.bounds-caches-i
bounds-caches-i c = omega (arith, length-contents c.args.levels.now c.loop-i.caches c.loop-i.invariant.same, c.loop-i-test.true)

pub returns-then-touch-clause-visit : goal.returns-then-touch-clause-visit
returns-then-touch-clause-visit c =
    visit-hit c.args.side c.args.address c.args.levels.now c.loop-i.caches
    (held_of c.args.levels.now c.args.caches.now) c.loop-i.i c.loop-i.visit.caches c.loop-i.visit.cycles c.index-levels-i.result
    c.index-caches-i.result c.loop-i.invariant.same c.loop-i-test.true c.index-levels-i.is c.index-caches-i.is c.loop-i.invariant.walked
    (sym c.if-serves.ensures) c.touch.new.self (rw (← c.index-caches-i.is) at c.touch.ensures.blocks) (rw (← c.index-caches-i.is) at c.if-touch.ensures.held) c.requires.few

pub returns-then-touch-clause-after : goal.returns-then-touch-clause-after
returns-then-touch-clause-after c =
    after-hit c.args.side c.args.address c.args.levels.now c.loop-i.caches
    (held_of c.args.levels.now c.args.caches.now) c.loop-i.i c.loop-i.visit.caches c.loop-i.visit.cycles c.index-levels-i.result
    c.index-caches-i.result c.loop-i.invariant.same c.loop-i-test.true c.index-levels-i.is c.index-caches-i.is c.loop-i.invariant.walked
    (sym c.if-serves.ensures) c.touch.new.self (rw (← c.index-caches-i.is) at c.touch.ensures.blocks) (rw (← c.index-caches-i.is) at c.if-touch.ensures.held)

pub returns-then-touch-clause-levels : goal.returns-then-touch-clause-levels
returns-then-touch-clause-levels c =
    same-touched c.args.side c.args.address c.args.levels.now c.loop-i.caches
    (held_of c.args.levels.now c.args.caches.now) c.loop-i.i c.loop-i.visit.caches c.loop-i.visit.cycles c.index-levels-i.result
    c.index-caches-i.result c.loop-i.invariant.same c.loop-i-test.true c.index-levels-i.is c.index-caches-i.is c.loop-i.invariant.walked
    (sym c.if-serves.ensures) c.touch.new.self (rw (← c.index-caches-i.is) at c.touch.ensures.blocks)

pub loop-i-preserved : goal.loop-i-preserved
loop-i-preserved c = elim c.if-serves.branch [
  | then-serves+else-touch w ↦
      let new = rw (← w.index-caches-i.is) at w.touch.ensures.blocks in
      let held = rw (← w.index-caches-i.is) at w.if-touch.ensures.held in
      rw (w.caches-is, w.visit-is) (record {
        same = same-touched c.args.side c.args.address c.args.levels.now c.loop-i.caches
            (held_of c.args.levels.now c.args.caches.now) c.loop-i.i c.loop-i.visit.caches c.loop-i.visit.cycles c.index-levels-i.result
            w.index-caches-i.result c.loop-i.invariant.same c.loop-i-test.true c.index-levels-i.is w.index-caches-i.is c.loop-i.invariant.walked (sym w.if-serves.ensures) w.touch.new.self new;
        hit = c.loop-i.invariant.hit;
        walked = walked-miss c.args.side c.args.address c.args.levels.now c.loop-i.caches
            (held_of c.args.levels.now c.args.caches.now) c.loop-i.i c.loop-i.visit.caches c.loop-i.visit.cycles c.index-levels-i.result
            w.index-caches-i.result c.loop-i.invariant.same c.loop-i-test.true c.index-levels-i.is w.index-caches-i.is c.loop-i.invariant.walked (sym w.if-serves.ensures) w.touch.new.self new held;
      })
  | else-serves w ↦
      rw (w.caches-is, w.visit-is) (record {
        same = c.loop-i.invariant.same;
        hit = c.loop-i.invariant.hit;
        walked = walked-by c.args.side c.args.address c.args.levels.now c.loop-i.caches
            (held_of c.args.levels.now c.args.caches.now) c.loop-i.i c.loop-i.visit.caches c.loop-i.visit.cycles c.index-levels-i.result
            c.loop-i.invariant.same c.loop-i-test.true c.index-levels-i.is c.loop-i.invariant.walked (sym w.if-serves.ensures);
      })
]

pub returns-clause-visit : goal.returns-clause-visit
returns-clause-visit c =
    visit-end c.args.side c.args.address c.args.levels.now c.loop-i.caches
    (held_of c.args.levels.now c.args.caches.now) c.loop-i.i c.loop-i.visit.caches c.loop-i.visit.cycles c.loop-i.invariant.same
    c.loop-i-test.false c.loop-i.auto.i-end c.loop-i.invariant.walked c.loop-i.visit refl c.loop-i.invariant.hit refl c.requires.few

pub returns-clause-after : goal.returns-clause-after
returns-clause-after c =
    after-end c.args.side c.args.address c.args.levels.now c.loop-i.caches
    (held_of c.args.levels.now c.args.caches.now) c.loop-i.i c.loop-i.visit.caches c.loop-i.visit.cycles c.loop-i.invariant.same
    c.loop-i-test.false c.loop-i.auto.i-end c.loop-i.invariant.walked
