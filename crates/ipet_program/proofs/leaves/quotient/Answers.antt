-- The quotient is the first bound.
use Rattle.std.proofs.Common.{◌≡◌, ◌≤ℤ◌, ◌/◌, ℕ, pos, sym, subst, arith}
use Rattle.std.proofs.lemmas.Int.{ints, to_z-of_z}
use Rattle.ipet_program.specs.Shown.{IsFirst}
use Rattle.std.proofs.Common.{false}
use Rattle.ipet_program.proofs.LeastLemmas.{first-quotient}
use Rattle.ipet_program.proofs.leaves.quotient.Goals as goal

pub returns-clause-first : goal.returns-clause-first
returns-clause-first c =
    let f = c.ranges.denom in
    let g = c.ranges.right in
    let low : pos 1 ≤ℤ c.args.denom = omega (arith, ints) in
    let same : c.args.right ≡ pos c.in-Ok.side = omega (arith, ints, c.in-Ok.ensures.0, c.in-Ok.ensures.1) in
    let size = simp to_z-of_z at c.unsigned_abs.ensures.value in
    let first = first-quotient c.args.denom c.args.right c.unsigned_abs.result c.in-Ok.side low same size in
    let is : c.in-Ok-try_from.bound ≡ c.in-Ok.side / c.unsigned_abs.result = grind arith in
    subst (IsFirst false c.args.denom c.args.right) (sym is) first
