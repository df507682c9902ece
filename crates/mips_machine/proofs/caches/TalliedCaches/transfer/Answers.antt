-- Three accesses at most, each of which counts once.
use Rattle.std.proofs.Common.{◌+◌, ◌-◌, ◌^◌, ◌≡◌, subst, arith}
use Rattle.mips_machine.specs.Tallies.{AreAtMost}
use Rattle.mips_machine.proofs.TallyLemmas.{low-more}
use Rattle.mips_machine.proofs.caches.TalliedCaches.transfer.Goals as goal

pub access-requires-2 : goal.access-requires-2
access-requires-2 c = record { low = low-more (2 ^ 64 - 3) c.access.new.self.tallies (c.access.ensures.counts (2 ^ 64 - 4) c.requires.low) }

pub data-requires : goal.data-requires
data-requires c = record { low = c.access-2.ensures.counts (2 ^ 64 - 3) (c.access.ensures.counts (2 ^ 64 - 4) c.requires.low) }

pub returns-clause-counts : goal.returns-clause-counts
returns-clause-counts c = λ most low.
    let three : most + 1 + 1 + 1 ≡ most + 3 = omega arith in
    subst (λ n. AreAtMost n c.data.new.self.tallies) three
    (c.data.ensures.counts (most + 1 + 1) (c.access-2.ensures.counts (most + 1) (c.access.ensures.counts most low)))
