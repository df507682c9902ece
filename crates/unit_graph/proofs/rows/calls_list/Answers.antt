use Rattle.std.proofs.Common.{◌∙◌, sym}
use Rattle.net_model.specs.Flow.{called, callees}
use Rattle.net_model.specs.Onward.{stops}
use Rattle.code_units.specs.Ways.{listed}
use Rattle.unit_graph.proofs.Sets.{IfOk-set, IsSetOf-unless}
use Rattle.unit_graph.proofs.rows.calls_list.Goals as goal

pub returns : goal.returns
returns c =
    let unit = c.args.unit.now in
    let own = callees c.args.image.now unit.instr c.args.address in
    IfOk-set (called c.args.image.now unit c.args.address) (listed c.own_callee.result) c.list_of.result c.list_of.ensures
    (IsSetOf-unless (stops unit) own (listed c.own_callee.result) (sym c.stops.ensures ∙ c.if-stops.false)
    (c.own_callee.ensures c.args.image.now))
