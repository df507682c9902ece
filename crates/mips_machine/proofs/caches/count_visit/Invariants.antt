-- The first caches were counted; the rest is counted as it would be from here on.
use Rattle.std.proofs.Common.{◌≡◌, ◌-◌, ◌^◌, ◌++◌, length, take, drop}
use Rattle.mips_machine.specs.Tallies.{AreAtMost, marked}
use Rattle.mips_machine.proofs.caches.count_visit.Given as goal

abbrev pub invariant-loop-i : goal.invariant-loop-i
invariant-loop-i l = record {
  same : length l.tallies ≡ length l.levels;
  low : AreAtMost (2 ^ 64 - 2) (drop l.i l.tallies);
  counted : marked l.side l.visit.caches l.visit.hit l.levels l.initial.tallies
      ≡ take l.i l.tallies ++ marked l.side l.left l.visit.hit (drop l.i l.levels) (drop l.i l.tallies);
}
