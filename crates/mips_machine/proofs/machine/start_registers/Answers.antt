-- The registers are set, and all numbers are 32 bits.
use Rattle.std.proofs.Common.{arith}
use Rattle.mips_machine.proofs.machine.start_registers.Goals as goal

pub returns-clause-start : goal.returns-clause-start
returns-clause-start c = λ entry.
    let set = c.set_at_start.ensures in
    record {
      count = set.count;
      small = set.small;
      hi = omega arith;
      lo = omega arith;
      zero = set.zero;
      stack = set.stack;
      link = set.link;
      pointer = set.pointer;
    }
