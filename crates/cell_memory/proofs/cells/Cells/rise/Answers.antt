-- Words that rise are words.
use Rattle.std.proofs.Common.{List, sym, ap, subst, ◌∙◌}
use Rattle.domain_laws.specs.Maps.{Rises, map_joined}
use Rattle.cell_memory.specs.Rises.{risen}
use Rattle.cell_memory.specs.Words.{AreWords}
use Rattle.cell_memory.proofs.RisenWords.{risen_kept}
use Rattle.cell_memory.proofs.WordLists.{Word}
use Rattle.cell_memory.proofs.cells.Cells.rise.Goals as goal

pub is_under-grew-requires-clause-below : goal.is_under-grew-requires-clause-below
is_under-grew-requires-clause-below c =
    let e = c.in_ok-both.ensures ∙ ap (λ (ws : List Word). map_joined (risen c.args.by) ws c.deref-2.result.now) c.deref.ensures.value
    ∙ ap (map_joined (risen c.args.by) c.self.inside.words.items) c.deref-2.ensures.value in
    let kept = risen_kept c.args.by c.self.inside.words.items c.newer.inside.words.items c.self.invariant c.newer.invariant in
    subst (Rises 0) (sym (c.deref-3.ensures.value ∙ e)) kept.rising

pub invariant_of-self : goal.invariant_of-self
invariant_of-self c =
    let e = c.in_ok-both.ensures ∙ ap (λ (ws : List Word). map_joined (risen c.args.by) ws c.deref-2.result.now) c.deref.ensures.value
    ∙ ap (map_joined (risen c.args.by) c.self.inside.words.items) c.deref-2.ensures.value in
    subst AreWords (sym e) (risen_kept c.args.by c.self.inside.words.items c.newer.inside.words.items c.self.invariant c.newer.invariant)
