-- The sign's weight after the shift is taken away.
use Rattle.std.proofs.Common.{◌≡◌, ◌+◌, ◌-◌, ◌/◌, ◌%◌, ◌^◌, refl, arith}
use Rattle.std.proofs.lemmas.Nat.{pow_pos}
use Rattle.value_domain.specs.Results.{shifted_signed}
use Rattle.value_domain.proofs.ShiftedSpans.{top_shifted}
use Rattle.value_domain.proofs.shifts.right_signed.Goals as goal

pub returns : goal.returns
unfolding shifted_signed
returns c =
    let t = top_shifted c.args.by c.requires in
    let e : (0 + (2 ^ 32 - 2 ^ 31 / 2 ^ c.args.by)) % 2 ^ 32 ≡ 2 ^ 32 - 2 ^ (31 - c.args.by) = omega (arith, t, pow_pos (31 - c.args.by)) in
    rw (c.sum.ensures, c.right-shifted.ensures, c.turned.ensures, c.one.ensures.value, e) refl
