-- A load goes to its register's address and reads its register before.
use Rattle.std.proofs.Common.{refl, sym}
use Rattle.mips_machine.specs.Units.{state_of}
use Rattle.mips_machine.proofs.unit.load.Goals as goal

pub returns-in-Err-clause-trap : goal.returns-in-Err-clause-trap
returns-in-Err-clause-trap c = λ pc.
    rw (← c.address_of-address.ensures)
    (c.in-Err.ensures.trap (state_of c.args.regs.now pc c.args.memory.now) c.args.rt refl)

pub returns-in-Ok-clause-done : goal.returns-in-Ok-clause-done
returns-in-Ok-clause-done c = λ pc.
    rw (← c.address_of-address.ensures, c.set.ensures)
    (c.in-Ok.ensures.done (state_of c.args.regs.now pc c.args.memory.now) c.args.rt refl (sym c.get.ensures))
