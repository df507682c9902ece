-- The numbers of the rows are small, as the bounds fit 32 bits.
use Rattle.std.proofs.Common.{◌∙◌, ap, length}
use Rattle.flow_net.specs.Numbers.{item_at}
use Rattle.ipet_program.specs.Programs.{arc_cap}
use Rattle.ipet_program.proofs.Checkable.{is-checkable}
use Rattle.ipet_program.proofs.Numbered.{length-numbered}
use Rattle.ipet_program.proofs.assemble.program_of.Goals as goal

pub returns-clause-checkable : goal.returns-clause-checkable
returns-clause-checkable c =
    let net = c.args.net.now in
    is-checkable net _ c.requires.few c.requires.bounds (ap length c.as_slice.ensures)
    c.in_ok-rows.ensures.rows c.in_ok-value.ensures.small c.in_ok-value.ensures.count
    (ap length c.in_ok-caps.ensures.caps
    ∙ length-numbered (λ column. arc_cap net (item_at column net.arcs)) (length net.arcs))
