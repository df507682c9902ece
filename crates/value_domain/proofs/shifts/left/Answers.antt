-- The ends and the step, scaled.
use Rattle.std.proofs.Common.{◌≡◌, ◌*◌, ◌%◌, ◌^◌, arith}
use Rattle.std.proofs.lemmas.Nat.{one_shl, pow_pos}
use Rattle.value_domain.proofs.ShiftedSpans.{whole_scaled}
use Rattle.value_domain.proofs.shifts.left.Goals as goal

pub wrapped-requires : goal.wrapped-requires
wrapped-requires c =
    let e : 1 * 2 ^ c.args.by % 2 ^ 64 ≡ 2 ^ c.args.by = one_shl c.args.by 64 (omega (arith, c.requires)) in
    rw (e, c.from.ensures, c.from-2.ensures, c.from-3.ensures, c.lo.ensures.value, c.hi.ensures, c.step.ensures.value)
    (whole_scaled c.args.a.now (2 ^ c.args.by) (pow_pos c.args.by) c.step.ensures.shape)
