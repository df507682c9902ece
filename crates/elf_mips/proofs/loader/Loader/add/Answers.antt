-- What the segments keep with one more.
use Rattle.std.proofs.Common.{◌≡◌, ◌+◌, List, arith, AllPairs, All, sym, subst}
use Rattle.std.specs.BTreeMap.{get}
use Rattle.std.specs.Ordering.{nat_cmp}
use Rattle.std.proofs.lemmas.List.Elements.{All-push}
use Rattle.std.proofs.lemmas.List.Sums.{sum_by_push}
use Rattle.elf_mips.specs.Segments.{AreApart, AreBegun, EndsLow, HasEnd, total_size}
use Rattle.elf_mips.specs.declared.segment.Segment.{Segment}
use Rattle.elf_mips.proofs.Overlaps.{apart_push, ended_push, begun_push}
use Rattle.elf_mips.proofs.loader.Loader.add.Goals as goal

pub invariant_of-result-clause-apart : goal.invariant_of-result-clause-apart
invariant_of-result-clause-apart c =
    subst (λ (all : List Segment). AllPairs AreApart all) (sym c.in_ok-push.ensures.ok)
    (apart_push c.args.self.segments c.args.segment c.args.self.apart c.requires.apart)

pub invariant_of-result-clause-low : goal.invariant_of-result-clause-low
invariant_of-result-clause-low c =
    subst (λ (all : List Segment). All EndsLow all) (sym c.in_ok-push.ensures.ok)
    (All-push EndsLow c.args.self.segments c.args.segment c.args.self.low c.requires.low)

pub invariant_of-result-clause-summed : goal.invariant_of-result-clause-summed
invariant_of-result-clause-summed c =
    subst (λ (all : List Segment). c.args.self.total + c.args.segment.size ≡ total_size all)
    (sym c.in_ok-push.ensures.ok)
    (omega (
      arith,
      c.args.self.summed,
      sum_by_push (λ (s : Segment). s.size) c.args.self.segments c.args.segment,
    ))

pub invariant_of-result-clause-ended : goal.invariant_of-result-clause-ended
invariant_of-result-clause-ended c =
    subst (λ (all : List Segment). All (HasEnd (get nat_cmp c.insert.new.self)) all)
    (sym c.in_ok-push.ensures.ok)
    (ended_push c.args.self.segments c.args.segment (get nat_cmp c.args.self.ends)
    (get nat_cmp c.insert.new.self) c.args.self.filled c.requires.filled c.args.self.ended
    c.requires.apart c.in_ok-insert.ensures.updates.1 c.in_ok-insert.ensures.updates.2)

pub invariant_of-result-clause-begun : goal.invariant_of-result-clause-begun
invariant_of-result-clause-begun c =
    subst
    (λ (all : List Segment). AreBegun (get nat_cmp c.insert.new.self) all)
    (sym c.in_ok-push.ensures.ok)
    (begun_push c.args.self.segments c.args.segment (get nat_cmp c.args.self.ends)
    (get nat_cmp c.insert.new.self) c.args.self.begun c.in_ok-insert.ensures.updates.2)
