-- Two accesses at most, each of which counts once.
use Rattle.std.proofs.Common.{◌+◌, ◌-◌, ◌^◌, ◌≡◌, subst, arith}
use Rattle.mips_machine.specs.Tallies.{AreAtMost}
use Rattle.mips_machine.proofs.caches.TalliedCaches.plain.Goals as goal

pub data-requires : goal.data-requires
data-requires c = record { low = c.access-fetch.ensures.counts (2 ^ 64 - 3) c.requires.low }

pub returns-clause-counts : goal.returns-clause-counts
returns-clause-counts c = λ most low.
    let two : most + 1 + 1 ≡ most + 2 = omega arith in
    subst (λ n. AreAtMost n c.data.new.self.tallies) two (c.data.ensures.counts (most + 1) (c.access-fetch.ensures.counts most low))
