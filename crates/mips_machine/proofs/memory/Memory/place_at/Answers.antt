-- The last start at an address or below it names the place.
use Rattle.mips_machine.proofs.IndexLemmas.{no_place, only_place}
use Rattle.mips_machine.proofs.memory.Memory.place_at.Goals as goal

pub returns-in-Some-clause-only : goal.returns-in-Some-clause-only
returns-in-Some-clause-only c =
    let regions = c.self.inside.regions.items in
    rw (← c.self.view_is)
    (only_place regions c.deref.result.now c.in-Some.start c.args.address
    (rw (← c.deref.ensures.value) at c.self.invariant)
    c.in-Some.ensures.item c.in-Some.ensures.below c.in-Some.ensures.last)

pub returns-in-None-clause-none : goal.returns-in-None-clause-none
returns-in-None-clause-none c =
    rw (← c.self.view_is)
    (no_place c.self.inside.regions.items c.deref.result.now c.args.address
    (rw (← c.deref.ensures.value) at c.self.invariant) c.in-None.ensures.none)
