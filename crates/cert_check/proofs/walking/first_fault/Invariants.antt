-- What was found so far, and what is to come.
use Rattle.std.proofs.Common.{◌≤◌, ◌-◌, [], ◌∷◌, length, vec_capacity}
use Rattle.cert_check.specs.Rejects.{branches_of}
use Rattle.cert_check.proofs.Found.{Walked}
use Rattle.cert_check.proofs.walking.first_fault.Given as goal

abbrev pub invariant-loop-more : goal.invariant-loop-more
invariant-loop-more l = record {
  walked : Walked l.program l.bound (branches_of ([] ∷ []) l.tree) l.tree l.scratch.cuts.items l.more l.place l.wide l.dual (vec_capacity l.scratch.cuts);
  columns : l.program.columns ≤ length l.scratch.sums.items;
}

abbrev pub decreases-loop-more : goal.decreases-loop-more
decreases-loop-more l = length l.tree - l.place
