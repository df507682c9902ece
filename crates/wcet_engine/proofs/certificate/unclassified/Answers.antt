-- There is an empty row for each access.
use Rattle.std.proofs.Common.{◌≡◌, length, ap, ◌∙◌, arith}
use Rattle.wcet_engine.proofs.Unclassified.{empty-rows}
use Rattle.wcet_engine.proofs.certificate.unclassified.Goals as goal

pub returns : goal.returns
returns c =
    let net = c.args.net.now in
    let invariant = c.loop-access.invariant in
    let all : length c.loop-access.rows ≡ length net.accesses = omega (arith, invariant.0, ap length c.as_slice-access-items.ensures) in
    empty-rows net net.accesses c.loop-access.rows all invariant.1
