-- The states are of one set.
use Rattle.std.specs.Prelude.{[], ◌∷◌}
use Rattle.std.proofs.Common.{subst, sym}
use Rattle.domain_laws.specs.Shapes.Shape.{plain}
use Rattle.persist_domain.specs.Laws.{conflicts_lattice}
use Rattle.persist_domain.specs.States.{IsConflicting}
use Rattle.persist_domain.proofs.tests.joins_keep_the_conflicts_of_both.Goals as goal

pub join-requires : goal.join-requires
join-requires g c = (
  plain (3 ∷ 1 ∷ []),
  c.in_ok-state.ensures,
  subst (IsConflicting 3 1) (sym c.in_ok-copy.ensures) c.in_ok-state.ensures,
)

pub widen-requires : goal.widen-requires
widen-requires g c = (
  plain (3 ∷ 1 ∷ []),
  subst (IsConflicting 3 1) (sym c.in_ok-join.ensures.value)
      ((conflicts_lattice.on (plain (3 ∷ 1 ∷ []))).kept c.in_ok-state.state c.in_ok-copy.copy c.in_ok-state.ensures
      (subst (IsConflicting 3 1) (sym c.in_ok-copy.ensures) c.in_ok-state.ensures)),
  c.in_ok-other.ensures,
)
