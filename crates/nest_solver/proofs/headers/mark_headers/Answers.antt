use Rattle.std.proofs.Common.{ℕ, set, length, subst, arith, ap}
use Rattle.nest_solver.specs.Nets.{entry}
use Rattle.nest_solver.specs.Shape.{IsUpTo}
use Rattle.nest_solver.proofs.Heading.{header-up, marked-all, marked-more, marked-none}
use Rattle.nest_solver.proofs.Puts.{Puts, puts-set}
use Rattle.nest_solver.proofs.headers.mark_headers.Goals as goal

pub loop-scope-init : goal.loop-scope-init
loop-scope-init c = marked-none c.args.net.now (entry c.args.headed.now) c.requires.fresh

pub loop-scope-preserved : goal.loop-scope-preserved
loop-scope-preserved c =
    let scope = c.loop-scope.scope in
    let up : IsUpTo (length c.args.net.now.loops) scope =
    (omega arith, omega (arith, ap length c.as_slice.ensures)) in
    marked-more c.args.net.now c.requires.nested (entry c.loop-scope.headed) _ scope up c.loop-scope.invariant
    (subst (λ (place : ℕ). Puts (entry c.loop-scope.headed) (entry (set c.loop-scope.headed c.header.result scope)) place scope)
    c.header.ensures
    (puts-set c.loop-scope.headed c.header.result scope
    (omega (arith, c.header.ensures, header-up c.args.net.now c.requires.nested scope up))))

pub returns : goal.returns
returns c = record {
  headers = marked-all c.args.net.now (entry c.loop-scope.headed) c.loop-scope.scope
      (omega (arith, ap length c.as_slice.ensures)) c.loop-scope.invariant;
}
