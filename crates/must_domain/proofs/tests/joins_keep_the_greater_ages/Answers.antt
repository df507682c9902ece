-- The states are of one set.
use Rattle.std.specs.Prelude.{[], ◌∷◌}
use Rattle.std.proofs.Common.{subst, sym}
use Rattle.domain_laws.specs.Shapes.Shape.{plain}
use Rattle.must_domain.specs.Laws.{upper_lattice}
use Rattle.must_domain.specs.States.{IsUpper}
use Rattle.must_domain.proofs.tests.joins_keep_the_greater_ages.Goals as goal

pub join-requires : goal.join-requires
join-requires g c = (
  plain (3 ∷ []),
  c.in_ok-state.ensures,
  subst (IsUpper 3) (sym c.in_ok-copy.ensures) c.in_ok-state.ensures,
)

pub widen-requires : goal.widen-requires
widen-requires g c = (
  plain (3 ∷ []),
  subst (IsUpper 3) (sym c.in_ok-join.ensures.value)
      ((upper_lattice.on (plain (3 ∷ []))).kept c.in_ok-state.state c.in_ok-copy.copy c.in_ok-state.ensures
      (subst (IsUpper 3) (sym c.in_ok-copy.ensures) c.in_ok-state.ensures)),
  c.in_ok-other.ensures,
)
