-- The visit is counted at the caches that the access went to.
use Rattle.std.proofs.Common.{◌≡◌, ◌∙◌, ◌++◌, ◌+◌, List, length, take, drop, ap, sym, subst, arith}
use Rattle.std.proofs.lemmas.List.{take_at}
use Rattle.lru_concrete.specs.Chains.{Hierarchy}
use Rattle.mips_machine.specs.declared.caches.Tally.{Tally}
use Rattle.mips_machine.specs.Passing.{tallied}
use Rattle.mips_machine.specs.Tallies.{AreAtMost}
use Rattle.mips_machine.proofs.TallyLemmas.{held-many, visit-counts, visit-fits, visit-low, visit-many}
use Rattle.mips_machine.proofs.caches.TalliedCaches.visit.Goals as goal

pub count_visit-requires-clause-same : goal.count_visit-requires-clause-same
count_visit-requires-clause-same c =
    rw (c.deref_mut.ensures.value, c.levels.ensures.levels)
    (visit-fits c.args.side c.args.address c.self.inside.caches c.access-visit.new.self c.self.inside.tallies.items
    c.access-visit.ensures.after c.self.invariant.same)

-- What the vector holds once the slice is given back.
given_back : (c : goal.After-self-1) → take c.self.inside.tallies.len
    (c.count_visit.new.tallies ++ drop (length c.count_visit.new.tallies) c.self.inside.tallies.items) ≡ c.count_visit.new.tallies
given_back c =
    let old : List Tally = c.self.inside.tallies.items in
    let new : List Tally = c.count_visit.new.tallies in
    let many : length new ≡ length old =
    visit-many c.args.side c.args.address c.self.inside.caches c.access-visit.new.self old c.access-visit.ensures.after c.self.invariant.same
    c.access-visit.result c.levels.result.now c.deref_mut.result.now new c.access-visit.ensures.visit c.levels.ensures.levels c.deref_mut.ensures.value
    c.count_visit.ensures in
    let lent : length c.deref_mut.result.now ≡ length old = ap (λ (ts : List Tally). length ts) c.deref_mut.ensures.value in
    let room = c.deref_mut.ensures.len in
    take_at new (drop (length new) old) c.self.inside.tallies.len (omega (arith, many, lent, room))

pub invariant_of-self : goal.invariant_of-self
invariant_of-self c =
    let old : List Tally = c.self.inside.tallies.items in
    let new : List Tally = c.count_visit.new.tallies in
    let many : length new ≡ length old =
    visit-many c.args.side c.args.address c.self.inside.caches c.access-visit.new.self old c.access-visit.ensures.after c.self.invariant.same
    c.access-visit.result c.levels.result.now c.deref_mut.result.now new c.access-visit.ensures.visit c.levels.ensures.levels c.deref_mut.ensures.value
    c.count_visit.ensures in
    record {
      same = ap (λ (ts : List Tally). length ts) (given_back c) ∙ many ∙ c.self.invariant.same
          ∙ held-many c.args.side c.args.address c.self.inside.caches c.access-visit.new.self old c.access-visit.ensures.after c.self.invariant.same;
      behind = c.self.invariant.behind ∙ sym (ap (λ (caches : Hierarchy). caches.memory) c.access-visit.ensures.after);
      low = c.self.invariant.low;
    }

pub returns-clause-after : goal.returns-clause-after
returns-clause-after c =
    let old : List Tally = c.self.inside.tallies.items in
    let new : List Tally = c.count_visit.new.tallies in
    let counts : new ≡ tallied c.args.side c.args.address c.self.inside.caches.caches old =
    visit-counts c.args.side c.args.address c.self.inside.caches c.access-visit.new.self old c.access-visit.ensures.after c.self.invariant.same
    c.access-visit.result c.levels.result.now c.deref_mut.result.now new c.access-visit.ensures.visit c.levels.ensures.levels c.deref_mut.ensures.value
    c.count_visit.ensures in
    rw (← c.self.view_is) (λ j. record {
      held = (c.access-visit.ensures.after j).caches;
      memory = (c.access-visit.ensures.after j).memory;
      tallies = (given_back c ∙ counts) j;
    })

pub returns-clause-counts : goal.returns-clause-counts
returns-clause-counts c =
    let old : List Tally = c.self.inside.tallies.items in
    let new : List Tally = c.count_visit.new.tallies in
    rw (← c.self.view_is) (λ most low. subst (AreAtMost (most + 1)) (sym (given_back c))
    (visit-low c.args.side c.args.address c.self.inside.caches c.access-visit.new.self old c.access-visit.ensures.after c.self.invariant.same
    c.access-visit.result c.levels.result.now c.deref_mut.result.now new c.access-visit.ensures.visit c.levels.ensures.levels c.deref_mut.ensures.value
    c.count_visit.ensures most low))
