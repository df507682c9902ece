-- The cycles of the unit, and the caches after it; and visits are no more than three times the cycles.
use Rattle.std.proofs.Common.{rules, ◌*◌, arith}
use Rattle.mips_machine.proofs.machine.Machine.step.Goals as goal

pub invariant_of-self-in_default : goal.invariant_of-self-in_default
invariant_of-self-in_default c = (
  c.self.invariant.0,
  λ k d inside.
      let low = c.plain.ensures.counts (3 * c.self.inside.cycles) c.self.invariant.1 k d inside in
      let some = c.plain_cycles-cycles.ensures.some in
      omega (arith, low, some),
)

pub returns-in_default : goal.returns-in_default
returns-in_default c =
    let visits = c.plain.ensures.cycles c.in-Ok.instr in
    let after = c.plain.ensures.after c.in-Ok.instr in
    search rules

pub invariant_of-self-2 : goal.invariant_of-self-2
invariant_of-self-2 c = (
  c.self.invariant.0,
  λ k d inside.
      let low = c.transfer.ensures.counts (3 * c.self.inside.cycles) c.self.invariant.1 k d inside in
      let some = c.transfer_cycles-cycles.ensures.some in
      omega (arith, low, some),
)

pub returns : goal.returns
returns c =
    let visits = c.transfer.ensures.cycles c.in-Ok.instr c.in-Ok-fetch.slot in
    let after = c.transfer.ensures.after c.in-Ok.instr c.in-Ok-fetch.slot in
    search rules
