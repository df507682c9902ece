use Rattle.std.proofs.Common.{subst, sym}
use Rattle.step_table.specs.Table.{IsWithin}
use Rattle.loop_nest.proofs.Cycling.{forward_within}
use Rattle.loop_nest.proofs.irreducible.first_irregular.Goals as goal

pub first_cyclic-requires : goal.first_cyclic-requires
first_cyclic-requires c =
    subst IsWithin (sym c.deref.ensures.value)
    (forward_within c.args.table.now c.args.sources.now c.in_ok-forward.forward.items c.requires.within
    c.in_ok-forward.ensures)
