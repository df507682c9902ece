-- The first caches were gone through.
use Rattle.std.proofs.Common.{◌≡◌, false}
use Rattle.lru_concrete.specs.Chains.{AreOfLevels, held_of}
use Rattle.lru_concrete.proofs.Walking.{IsWalked}
use Rattle.lru_concrete.proofs.caches.visit.Given as goal

abbrev pub invariant-loop-i : goal.invariant-loop-i
invariant-loop-i l = record {
  same : AreOfLevels l.levels l.caches;
  hit : l.visit.hit ≡ false;
  walked : IsWalked l.side l.address l.levels (held_of l.levels l.initial.caches) (held_of l.levels l.caches) l.i l.visit.caches l.visit.cycles;
}
