use Rattle.unit_graph.proofs.RuleLists.{call_rules}
use Rattle.unit_graph.proofs.inference.add_call.Goals as goal

pub returns : goal.returns
returns c =
    call_rules c.args.address c.args.callee c.args.rules.now.items c.push.new.self.items c.push-2.new.self.items
    c.in_ok-push.ensures.items c.in_ok-push-2.ensures.items
