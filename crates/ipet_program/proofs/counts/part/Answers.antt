-- A small factor times a number of 64 bits.
use Rattle.std.proofs.Common.{◌≡◌, ◌*ℤ◌, ◌≤◌, ◌^◌, ℤ, pos, FitsSigned, unsigned_abs, ap, sym, subst, ◌∙◌, arith, rules}
use Rattle.std.specs.Int.{w128}
use Rattle.std.proofs.lemmas.Int.{ints, to_z-of_z}
use Rattle.ipet_program.proofs.ListedLemmas.{part-small, sum-fits}
use Rattle.ipet_program.proofs.counts.part.Goals as goal

pub returns-clause-small : goal.returns-clause-small
returns-clause-small c =
    let wide : FitsSigned w128 c.from.result = search rules in
    let many : FitsSigned w128 c.from-2.result = search rules in
    let e : c.from.result ≡ c.args.factor = search (arith, ints, to_z-of_z) in
    let f : c.from-2.result ≡ pos c.args.number = search (arith, ints, to_z-of_z) in
    let same : c.from.result *ℤ c.from-2.result ≡ c.args.factor *ℤ pos c.args.number =
    ap (λ (z : ℤ). z *ℤ c.from-2.result) e ∙ ap (λ (z : ℤ). c.args.factor *ℤ z) f in
    let small = subst (λ (z : ℤ). unsigned_abs z ≤ 2 ^ 97) (sym same)
    (part-small c.args.factor c.args.number c.requires (omega arith)) in
    let fits = sum-fits (c.from.result *ℤ c.from-2.result) 1 (omega arith) (omega (arith, small)) in
    simp to_z-of_z small
