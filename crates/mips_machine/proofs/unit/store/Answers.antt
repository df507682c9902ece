-- A store goes to its register's address and writes its register's number.
use Rattle.std.proofs.Common.{refl, sym}
use Rattle.mips_machine.specs.Units.{state_of}
use Rattle.mips_machine.proofs.unit.store.Goals as goal

pub returns-in-Err-clause-trap : goal.returns-in-Err-clause-trap
returns-in-Err-clause-trap c = λ pc.
    rw (← c.address_of-address.ensures)
    (c.in-Err.ensures.trap (state_of c.args.regs.now pc c.args.memory.now) c.args.rt refl)

pub returns-in-Ok-clause-done : goal.returns-in-Ok-clause-done
returns-in-Ok-clause-done c = λ pc.
    rw (← c.address_of-address.ensures)
    (c.in-Ok.ensures.done (state_of c.args.regs.now pc c.args.memory.now) c.args.rt refl (sym c.get.ensures))
