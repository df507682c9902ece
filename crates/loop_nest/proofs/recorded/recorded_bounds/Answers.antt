use Rattle.std.proofs.Common.{List, take, subst, sym}
use Rattle.std.specs.BTreeMap.{get}
use Rattle.std.specs.Ordering.{nat_cmp}
use Rattle.std.proofs.lemmas.List.{take_all, take_more}
use Rattle.elf_mips.specs.declared.mark.Mark.{Mark}
use Rattle.loop_nest.specs.Bounds.{AreRecorded}
use Rattle.loop_nest.proofs.recorded.recorded_bounds.Goals as goal

pub loop-mark-preserved : goal.loop-mark-preserved
loop-mark-preserved c =
    let at = c.loop-mark.mark-index in
    subst (λ (marks : List Mark). AreRecorded marks (get nat_cmp c.record_one.new.recorded))
    (sym (take_more c.args.marks.now at _ c.loop-mark-test.true))
    (c.in_ok-record_one.ensures (take at c.args.marks.now) c.loop-mark.invariant)

pub returns : goal.returns
returns c =
    subst (λ (marks : List Mark). AreRecorded marks (get nat_cmp c.loop-mark.recorded))
    (take_all c.loop-mark.mark-index c.args.marks.now c.loop-mark-test.false) c.loop-mark.invariant
