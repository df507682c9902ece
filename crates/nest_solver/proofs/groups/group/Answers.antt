use Rattle.std.proofs.Common.{ℕ, arith, subst}
use Rattle.nest_solver.specs.Groups.{AreGrouped}
use Rattle.nest_solver.specs.Nets.{entry}
use Rattle.nest_solver.proofs.Grouping.{grouped-none, grouped-more}
use Rattle.nest_solver.proofs.Puts.{puts-set}
use Rattle.nest_solver.proofs.groups.group.Goals as goal

pub loop-number-init : goal.loop-number-init
loop-number-init c = grouped-none (entry c.args.keys.now) (entry c.args.first.now) (entry c.args.next.now) c.requires.fresh

pub loop-number-preserved : goal.loop-number-preserved
loop-number-preserved c =
    let at = c.loop-number.number in
    let key = entry c.args.keys.now at in
    grouped-more (entry c.args.keys.now) at (entry c.loop-number.first) (entry c.loop-number.next) _ _
    (omega arith) c.loop-number.invariant
    (puts-set c.loop-number.first key at (omega (arith, c.requires.keys at (omega arith))))
    (puts-set c.loop-number.next at (entry c.loop-number.first key) (omega arith))

pub returns : goal.returns
returns c = record {
  grouped = subst (λ (high : ℕ). AreGrouped (entry c.args.keys.now) high (entry c.loop-number.first) (entry c.loop-number.next))
      (omega (arith, c.loop-number.auto.number-end)) c.loop-number.invariant;
}
