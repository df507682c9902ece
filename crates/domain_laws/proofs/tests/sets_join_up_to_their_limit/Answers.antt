-- The sets have the limit 4.
use Rattle.std.specs.Prelude.{◌≡◌, ℕ, ◌<◌, [], ◌∷◌, Some, refl}
use Rattle.std.proofs.Common.{arith, subst, sym}
use Rattle.domain_laws.specs.Shapes.Shape.{plain}
use Rattle.domain_laws.specs.Sets.{Limited, IsCapped}
use Rattle.domain_laws.proofs.tests.sets_join_up_to_their_limit.Goals as goal

fit : (first second : ℕ) (set : Limited) → first < second →
    set ≡ record { limit = 4; items = Some (first ∷ second ∷ []) } → IsCapped 4 set
fit first second set less e = subst (IsCapped 4) (sym e) (record {
  same = refl;
  low = omega arith;
  few = ((omega arith, (omega (arith, less), tt)), omega arith);
})

pub joined-requires : goal.joined-requires
joined-requires g c = (
  plain (4 ∷ []),
  fit 3 5 c.in_ok-two_of.field-0 (omega arith) c.in_ok-two_of.ensures,
  fit 5 8 c.in_ok-two_of-2.field-0 (omega arith) c.in_ok-two_of-2.ensures,
)

pub widened-requires : goal.widened-requires
widened-requires g c = (
  plain (4 ∷ []),
  fit 3 5 c.in_ok-two_of-3.field-0 (omega arith) c.in_ok-two_of-3.ensures,
  fit 6 8 c.in_ok-two_of-4.field-0 (omega arith) c.in_ok-two_of-4.ensures,
)
