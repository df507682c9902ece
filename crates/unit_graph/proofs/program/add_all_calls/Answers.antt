use Rattle.std.proofs.Common.{ℕ, List, get_or, subst, sym, take, arith}
use Rattle.std.proofs.lemmas.List.{take_all, take_more}
use Rattle.unit_graph.specs.Program.{CalledFrom}
use Rattle.unit_graph.specs.Search.{Gains}
use Rattle.unit_graph.proofs.Calling.{from_more, from_nobody}
use Rattle.unit_graph.proofs.program.add_all_calls.Goals as goal

pub loop-address-init : goal.loop-address-init
loop-address-init c = from_nobody c.args.rows.now c.args.calls.now.keys

pub loop-address-preserved : goal.loop-address-preserved
loop-address-preserved c =
    let at = c.loop-address.address-index in
    subst (λ (some : List ℕ). Gains (CalledFrom c.args.rows.now some) c.args.calls.now.keys c.add_calls.new.calls.keys)
    (sym (take_more c.args.code.now at 0 c.loop-address-test.true))
    (from_more c.args.rows.now (take at c.args.code.now) (get_or c.args.code.now at 0) c.args.calls.now.keys
    c.loop-address.calls.keys c.add_calls.new.calls.keys c.loop-address.invariant c.in_ok-add_calls.ensures)

pub returns : goal.returns
returns c =
    subst (λ (some : List ℕ). Gains (CalledFrom c.args.rows.now some) c.args.calls.now.keys c.loop-address.calls.keys)
    (take_all c.loop-address.address-index c.args.code.now (omega (arith, c.loop-address-test.false)))
    c.loop-address.invariant
