use Rattle.std.proofs.Common.{ℕ, Option, subst, sym}
use Rattle.step_table.specs.Table.{AreStepsTo, IsPosition}
use Rattle.step_table.proofs.Positions.{steps_more, steps_same}
use Rattle.step_table.proofs.table.add_step.Goals as goal
use Rattle.std.proofs.Common.{◌≡◌, ◌++◌, ◌∷◌, [], None, Some, refl}

pub returns-in_ok-push : goal.returns-in_ok-push
returns-in_ok-push c onward are =
    subst (AreStepsTo c.args.addresses.now (onward ++ c.args.address ∷ [])) (sym c.in_ok-push.ensures.ok)
    (steps_more c.args.addresses.now onward c.args.steps.now c.args.address c.in-Some.position c.requires
    c.in-Some.ensures are)

pub returns-in_default : goal.returns-in_default
returns-in_default c onward are =
    steps_same c.args.addresses.now onward c.args.steps.now c.args.address
    (none c.position_of.result c.position_of.ensures c.in_default.not-Some) are
  where
    none : (found : Option ℕ) → IsPosition c.args.addresses.now c.args.address found → ((x : ℕ) → found ≡ Some x → ⊥) →
        IsPosition c.args.addresses.now c.args.address None
    none None h absent = h
    none (Some x) h absent = absurd (absent x refl)
