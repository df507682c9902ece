use Rattle.std.proofs.Common.{◌∙◌, All, subst, sym}
use Rattle.std.specs.Prelude.{Contains}
use Rattle.std.proofs.lemmas.List.Elements.{All-contains_itself, All-weaker}
use Rattle.unit_graph.specs.Rows.{HasUnit}
use Rattle.unit_graph.proofs.Drawing.{IsGraph-drawn}
use Rattle.unit_graph.proofs.graph.graph_of.Goals as goal

pub nodes_of-requires-clause-units : goal.nodes_of-requires-clause-units
nodes_of-requires-clause-units c =
    subst (All (HasUnit c.args.rows.now)) (sym (c.deref.ensures.value ∙ c.in_ok-addresses.ensures))
    (All-weaker (Contains c.in_ok-led.led.keys) (HasUnit c.args.rows.now)
    (λ x h. c.requires.units x (c.in_ok-led.ensures.sound x h)) c.in_ok-led.led.keys (All-contains_itself c.in_ok-led.led.keys))

pub returns : goal.returns
returns c = λ image entry are returns.
    IsGraph-drawn image entry c.args.rows.now c.args.returning.now.keys c.args.function c.in_ok-led.led.keys c.deref.result.now
    c.in_ok-units.units c.as_slice.result.now c.any_returns-can_return.result
    are returns c.requires.units c.in_ok-led.ensures (c.deref.ensures.value ∙ c.in_ok-addresses.ensures)
    (c.in_ok-units.ensures image entry are returns) c.as_slice.ensures c.any_returns-can_return.ensures
