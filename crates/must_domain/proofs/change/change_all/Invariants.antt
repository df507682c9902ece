-- The pass has come to a place.
use Rattle.must_domain.proofs.Changing.{IsPass}
use Rattle.must_domain.proofs.change.change_all.Given as goal

abbrev pub invariant-loop-place : goal.invariant-loop-place
invariant-loop-place g l = IsPass (g.R.Rule.changed l.rule) l.fn.ages.items l.ages.items l.place l.kept
