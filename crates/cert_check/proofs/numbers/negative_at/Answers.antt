-- The size is the one that stands there.
use Rattle.std.proofs.Common.{◌≡◌, ◌+◌, ◌<◌, ◌^◌, arith}
use Rattle.std.specs.Prelude.{negsuc}
use Rattle.cert_check.proofs.Lists.{first_same, none_some}
use Rattle.cert_check.proofs.Signs.{below_half}
use Rattle.cert_check.proofs.numbers.negative_at.Goals as goal

pub returns-in_err-number-clause-again : goal.returns-in_err-number-clause-again
returns-in_err-number-clause-again c n stop rest fits s =
    let e = first_same _ _ _ _ (c.in_ok-size.ensures.again (n + 1) stop rest (omega (arith, below_half n fits)) s) in
    absurd (none_some (negsuc n) (c.in_err-number.ensures.again n fits e))
