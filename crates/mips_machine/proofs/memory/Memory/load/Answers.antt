-- A load finds its region at the place that was searched, or none.
use Rattle.mips_machine.proofs.AccessLemmas.{loaded-found, loaded-outside}
use Rattle.mips_machine.proofs.memory.Memory.load.Goals as goal

pub returns-in_default-clause-trap : goal.returns-in_default-clause-trap
returns-in_default-clause-trap c = λ s rt same.
    loaded-outside s c.args.op rt c.args.address c.load_touched-access.result c.args.self.now
    c.load_touched-access.ensures.access c.if-access-ne0.false same c.in_default.ensures.none

pub returns-clause-done : goal.returns-clause-done
returns-clause-done c = λ s rt same before.
    loaded-found s c.args.op rt c.args.address c.load_touched-access.result c.args.self.now c.in-Some.place
    c.index.result.now c.args.old c.number-number.result c.load_value-value.result
    c.load_touched-access.ensures.access c.if-access-ne0.false same c.in-Some.ensures.place
    (cc (c.index.ensures, c.self.view_is)) before c.number-number.ensures c.load_value-value.ensures
