-- What stands in front is read, and only that.
use Rattle.std.proofs.Common.{◌≡◌, ℕ, ◌<◌, ◌^◌, ◌≤◌, List, get_or, length, refl, arith}
use Rattle.std.specs.Fmt.{decimal}
use Rattle.cert_check.specs.Numbers.{IsNext, Stands}
use Rattle.cert_check.proofs.Decimal.{some_digit, goes_on, ends, inside, whole, grows, no_overflow, lead}
use Rattle.cert_check.proofs.numbers.number_at.Goals as goal

pub returns-then-place-eq0-clause-again : goal.returns-then-place-eq0-clause-again
returns-then-place-eq0-clause-again c n stop rest small s =
    let inv = c.loop-place.invariant in
    let e = ends c.args.bytes.now n stop rest c.loop-place.place small s (inv.within n stop rest small s) c.if-not-is_digit.ensures.none in
    absurd (omega (arith, some_digit n small, e, c.if-place-eq0.true))

pub returns-then-not-is_digit-clause-again : goal.returns-then-not-is_digit-clause-again
returns-then-not-is_digit-clause-again c n stop rest small s =
    let inv = c.loop-place.invariant in
    let e = ends c.args.bytes.now n stop rest c.loop-place.place small s (inv.within n stop rest small s) c.if-not-is_digit.ensures.none in
    let w = whole c.args.bytes.now n c.loop-place.number stop rest c.loop-place.place small inv.small s e (inv.grows.some (omega (arith, c.if-place-eq0.false))) in
    rw (w.0, c.split_at.ensures.back, w.1) refl

pub returns-in_err-number-clause-again : goal.returns-in_err-number-clause-again
returns-in_err-number-clause-again c n stop rest small s =
    let inv = c.loop-place.invariant in
    let lt = goes_on c.args.bytes.now n stop rest c.loop-place.place s (inv.within n stop rest small s) c.if-not-is_digit.ensures.yes in
    let next = lead c.args.bytes.now n stop rest c.loop-place.place c.loop-place.number small s lt inv.grows in
    let great = c.in_err-number.ensures.none next in
    absurd (omega (arith, great, small, no_overflow c.args.bytes.now n stop rest c.loop-place.place c.loop-place.number small s lt inv.small inv.grows))

pub loop-place-preserved : goal.loop-place-preserved
loop-place-preserved c =
    let inv = c.loop-place.invariant in
    let some = c.in_ok-number.ensures.some in
    record {
      small = omega (arith, some);
      grows = rw some.1 (grows c.args.bytes.now c.loop-place.place c.loop-place.number c.loop-place-test.true inv.grows
          c.if-not-is_digit.ensures.yes some.0 (omega (arith, some)));
      within = λ n stop rest small s.
          let lt = goes_on c.args.bytes.now n stop rest c.loop-place.place s (inv.within n stop rest small s) c.if-not-is_digit.ensures.yes in
          omega arith;
    }
