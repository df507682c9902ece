-- The items so far are added.
use Rattle.std.proofs.Common.{◌≡◌, drop}
use Rattle.domain_laws.specs.Sets.{all_added}
use Rattle.domain_laws.proofs.capped.add_all.Given as goal

abbrev pub invariant-loop-item : goal.invariant-loop-item
invariant-loop-item l = all_added (drop l.item-index l.items) l.set ≡ all_added l.items l.fn.set
