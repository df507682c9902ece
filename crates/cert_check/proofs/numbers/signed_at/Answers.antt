-- A number below 0 stands behind a `-`.
use Rattle.std.proofs.Common.{◌≡◌, ℕ, List, ◌∷◌, Some, option_map, sym, subst}
use Rattle.std.specs.Prelude.{ℤ, FitsSigned}
use Rattle.std.specs.Int.{w128}
use Rattle.cert_check.proofs.Signs.{negative}
use Rattle.cert_check.proofs.numbers.signed_at.Goals as goal

pub returns-in-Some-clause-again : goal.returns-in-Some-clause-again
returns-in-Some-clause-again c z stop rest fits ends e =
    let n = negative c.args.bytes.now c.in-Some.digits.now z stop rest fits ends c.in-Some.ensures.takes e in
    let read = c.negative_at.ensures.again n.n stop rest (subst (FitsSigned w128) n.is fits) n.stands in
    rw n.is read
