-- One more word is under what is left.
use Rattle.std.proofs.Common.{Option, Some, sym, ap, ◌∙◌, arith}
use Rattle.domain_laws.specs.Maps.{topped_leq}
use Rattle.value_domain.specs.Order.{leq}
use Rattle.value_domain.specs.Spans.{Span}
use Rattle.cell_memory.proofs.WordLists.{step_under}
use Rattle.cell_memory.proofs.words.is_under.Goals as goal

pub loop-word-preserved : goal.loop-word-preserved
loop-word-preserved c = record {
  rises = (c.word-item.result.0, c.words_from-rest.ensures.rises);
  same = step_under leq c.loop-word.rest.now c.words_from-rest.result.now c.args.below.now c.args.above.now c.loop-word.word-index c.word-item.result
      (0, c.requires.above) (omega arith) c.word-item.is c.words_from-rest.ensures.values
      (ap (λ (v : Option Span). topped_leq leq v (Some c.word-item.result.1)) (sym c.first_at.ensures) ∙ sym c.is_value_under.ensures ∙ c.if-not-is_value_under.false)
      c.loop-word.invariant.same;
}
