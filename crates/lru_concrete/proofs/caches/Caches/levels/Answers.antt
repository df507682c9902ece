-- The levels of the caches are those that were given.
use Rattle.std.proofs.Common.{◌∙◌, sym}
use Rattle.lru_concrete.proofs.Walking.{levels-held_of}
use Rattle.lru_concrete.proofs.caches.Caches.levels.Goals as goal

pub returns-clause-levels : goal.returns-clause-levels
returns-clause-levels c =
    rw (← c.self.view_is) (c.deref.ensures.value ∙ sym (levels-held_of c.self.inside.levels.items c.self.inside.caches.items c.self.invariant.same))
