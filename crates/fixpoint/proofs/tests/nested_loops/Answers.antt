-- The net that is made is the one that flow_net writes out: it is nested, and it can be solved.
use Rattle.std.proofs.Common.{◌≡◌, All, length, refl, sym, subst}
use Rattle.flow_net.specs.Nested.{IsNested}
use Rattle.flow_net.specs.Numbers.{IsNumberOf, IsNumberOrZero}
use Rattle.flow_net.specs.Scopes.{HasScopes}
use Rattle.flow_net.specs.declared.net.Net.{Net}
use Rattle.flow_net.proofs.OnNested.{nested_two_loops}
use Rattle.fixpoint.specs.Solved.{IsSolvable}
use Rattle.fixpoint.proofs.OnLiteral.{solvable_two_loops}
use Rattle.fixpoint.proofs.tests.nested_loops.Goals as goal

pub returns-clause-accesses : goal.returns-clause-accesses
returns-clause-accesses c =
    subst (λ (net : Net). All (λ access. IsNumberOf net.places access.place) net.accesses) (sym c.in_ok-net.ensures)
    nested_two_loops.numbers.accesses

pub returns-clause-nested : goal.returns-clause-nested
returns-clause-nested c = subst IsNested (sym c.in_ok-net.ensures) nested_two_loops

pub returns-clause-solvable : goal.returns-clause-solvable
returns-clause-solvable c = subst IsSolvable (sym c.in_ok-net.ensures) solvable_two_loops

pub returns-clause-sizes : goal.returns-clause-sizes
returns-clause-sizes c =
    subst (λ (net : Net). (length net.places ≡ 2) × (length net.arcs ≡ 5) × (length net.accesses ≡ 1)) (sym c.in_ok-net.ensures)
    (refl, refl, refl)

pub returns-clause-loops : goal.returns-clause-loops
returns-clause-loops c = subst (λ (net : Net). length net.loops ≡ 2) (sym c.in_ok-net.ensures) refl

pub returns-clause-starts : goal.returns-clause-starts
returns-clause-starts c =
    subst (λ (net : Net). All (λ arc. IsNumberOrZero net.places arc.from) net.arcs) (sym c.in_ok-net.ensures)
    solvable_two_loops.starts

pub returns-clause-ends : goal.returns-clause-ends
returns-clause-ends c =
    subst (λ (net : Net). All (λ arc. IsNumberOrZero net.places arc.to) net.arcs) (sym c.in_ok-net.ensures)
    solvable_two_loops.ends

pub returns-clause-scopes : goal.returns-clause-scopes
returns-clause-scopes c = subst HasScopes (sym c.in_ok-net.ensures) solvable_two_loops.scopes
