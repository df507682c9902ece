use Rattle.step_table.proofs.Positions.{position_found}
use Rattle.step_table.proofs.table.position_of.Goals as goal

pub returns : goal.returns
returns c =
    position_found c.args.addresses.now c.args.address c.binary_search.result c.requires
    c.binary_search.ensures.position c.ok.result c.ok.ensures.value
