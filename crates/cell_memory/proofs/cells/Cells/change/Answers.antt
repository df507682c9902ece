-- The words after a store are words.
use Rattle.std.proofs.Common.{sym, subst}
use Rattle.cell_memory.specs.Words.{AreWords}
use Rattle.cell_memory.proofs.StoredWords.{words_stored}
use Rattle.cell_memory.proofs.cells.Cells.change.Goals as goal

pub invariant_of-self : goal.invariant_of-self
invariant_of-self c =
    subst AreWords (sym c.in_ok-words.ensures)
    (words_stored c.args.store.now.writable.now c.args.store.now.address c.args.store.now.size c.args.value.now c.deref.result.now
    (subst AreWords (sym c.deref.ensures.value) c.self.invariant) c.step.ensures.shape c.step-2.ensures.shape)
