-- One more word rises by what is left.
use Rattle.std.proofs.Common.{◌++◌, [], Option, Some, ap, ◌∙◌, arith}
use Rattle.domain_laws.specs.Maps.{entry_of, topped_joined}
use Rattle.value_domain.specs.Spans.{Span}
use Rattle.cell_memory.specs.Rises.{risen}
use Rattle.cell_memory.proofs.WordLists.{step_joined}
use Rattle.cell_memory.proofs.lattice.risen_words.Goals as goal

pub loop-word-preserved : goal.loop-word-preserved
loop-word-preserved c = record {
  rises = (c.word-item.result.0, c.words_from-rest.ensures.rises);
  same = step_joined (risen c.args.by) c.loop-word.both.items _ c.loop-word.rest.now c.words_from-rest.result.now c.args.words.now c.args.newer.now c.loop-word.word-index c.word-item.result
      (0, c.requires.words) (omega arith) c.word-item.is c.words_from-rest.ensures.values
      (c.in_ok-push_risen.ensures ∙ ap (λ (v : Option Span). c.loop-word.both.items ++ entry_of c.word-item.result.0 (topped_joined (risen c.args.by) (Some c.word-item.result.1) v) []) c.first_at.ensures)
      c.loop-word.invariant.same;
}
