-- The latencies of the visited caches, and memory's where none of them held the block.
use Rattle.std.proofs.Common.{◌+◌, ◌∙◌, refl}
use Rattle.std.proofs.lemmas.Bool.{not-true, not-false}
use Rattle.lru_concrete.specs.Chains.{held_of, levels_of, goes}
use Rattle.lru_concrete.proofs.Walking.{levels-held_of, visit-cached, visit-memory}
use Rattle.lru_concrete.proofs.caches.Caches.access.Goals as goal
use Rattle.lru_concrete.proofs.caches.Caches.access.Goals.{then-not-visit, else-not-visit}

pub returns-clause-visit : goal.returns-clause-visit
returns-clause-visit c =
    let levels = c.self.inside.levels.items in
    let contents = c.self.inside.caches.items in
    let is = rw (c.deref.ensures.value, c.deref_mut.ensures.value) at c.visit-visit.ensures.visit in
    let visited = (goes c.args.side c.args.address (held_of levels contents)).visit in
    let same = levels-held_of levels contents c.self.invariant.same in
    rw (← c.self.view_is) (elim c.if-not-visit.branch [
      | then-not-visit w ↦ w.visit-is ∙ visit-memory c.args.side levels (levels_of (held_of levels contents)) c.self.inside.memory visited
          c.visit-visit.result same is (not-true _ w.if-not-visit.true) (c.visit-visit.result.cycles + c.self.inside.memory) refl
      | else-not-visit w ↦ w.visit-is ∙ visit-cached c.args.side levels (levels_of (held_of levels contents)) c.self.inside.memory visited
          c.visit-visit.result same is (not-false _ w.if-not-visit.false)
    ])
