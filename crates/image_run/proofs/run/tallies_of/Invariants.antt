-- The tallies so far.
use Rattle.std.proofs.Common.{◌≡◌, take}
use Rattle.image_run.proofs.run.tallies_of.Given as goal

abbrev pub invariant-loop-cache : goal.invariant-loop-cache
invariant-loop-cache l = l.tallies ≡ take l.cache l.machine.caches.tallies
