-- One cache more: it is passed, or counted.
use Rattle.std.proofs.Common.{◌≡◌, ◌∙◌, ◌-◌, ◌^◌, ◌==◌, ◌&&◌, suc, Bool, true, ap, get_or, sym, arith}
use Rattle.std.proofs.lemmas.Grind.{common_steps}
use Rattle.std.proofs.lemmas.List.{length-set}
use Rattle.lru_concrete.specs.declared.level.Level.{Level}
use Rattle.lru_concrete.specs.Chains.{serves}
use Rattle.mips_machine.specs.declared.caches.Tally.{Tally}
use Rattle.mips_machine.specs.Tallies.{counted}
use Rattle.mips_machine.proofs.TallyLemmas.{low-past, low-set, marked-all, marked-past, marked-served}
use Rattle.mips_machine.proofs.caches.count_visit.Goals as goal
use Rattle.mips_machine.proofs.caches.count_visit.Goals.{then-serves, then-left-eq0-2, else-left-eq0-2, else-serves}

pub loop-i-preserved : goal.loop-i-preserved
loop-i-preserved c =
    let side = c.args.side in
    let hit = c.args.visit.now.hit in
    let kept = c.loop-i.invariant in
    elim c.if-serves.branch [
      | then-serves w ↦
          let left = c.loop-i.left - 1 in
          let one : c.loop-i.left ≡ suc left = omega (arith, c.if-left-eq0.false) in
          let served : serves c.index-levels-i.result.serves side ≡ true =
          ap (λ (l : Level). serves l.serves side) c.index-levels-i.is ∙ sym w.if-serves.ensures in
          let none : Tally = record { hits = 0; misses = 0 } in
          let found : w.if-left-eq0-2.counted ≡ (left == 0 && hit) = elim w.if-left-eq0-2.branch [
            | then-left-eq0-2 w' ↦ grind (arith, common_steps)
            | else-left-eq0-2 w' ↦ grind (arith, common_steps)
          ] in
          let new : w.counted.result ≡ counted (left == 0 && hit) (get_or c.loop-i.tallies c.loop-i.i none) =
          w.counted.ensures ∙ ap (λ (b : Bool). counted b (get_or c.loop-i.tallies c.loop-i.i none)) found in
          rw (w.tallies-is, w.left-is, new) (record {
            same = length-set c.loop-i.tallies c.loop-i.i (counted (left == 0 && hit) (get_or c.loop-i.tallies c.loop-i.i none)) ∙ kept.same;
            low = low-set (2 ^ 64 - 2) c.loop-i.tallies c.loop-i.i (counted (left == 0 && hit) (get_or c.loop-i.tallies c.loop-i.i none)) kept.low;
            counted = kept.counted ∙ marked-served side left c.loop-i.left hit c.args.levels.now c.loop-i.tallies c.loop-i.i c.index-levels-i.result
                none c.loop-i-test.true kept.same c.index-levels-i.is served one;
          })
      | else-serves w ↦ rw (w.tallies-is, w.left-is) (record {
        same = kept.same;
        low = low-past (2 ^ 64 - 2) c.loop-i.tallies c.loop-i.i kept.low;
        counted = kept.counted ∙ marked-past side c.loop-i.left hit c.args.levels.now c.loop-i.tallies c.loop-i.i c.index-levels-i.result
            c.loop-i-test.true kept.same c.index-levels-i.is
            (ap (λ (l : Level). serves l.serves side) c.index-levels-i.is ∙ sym w.if-serves.ensures);
      })
    ]

pub returns : goal.returns
returns c = sym (c.loop-i.invariant.counted
    ∙ marked-all c.args.side c.loop-i.left c.args.visit.now.hit c.args.levels.now c.loop-i.tallies c.loop-i.i c.loop-i-test.false c.loop-i.invariant.same)
