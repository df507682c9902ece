-- What a load holds, and that it rises.
use Rattle.std.proofs.Common.{◌≡◌, sym, subst, true}
use Rattle.value_domain.specs.Order.{leq}
use Rattle.value_domain.specs.Spans.{Span, Holds}
use Rattle.cell_memory.specs.Words.{loaded}
use Rattle.cell_memory.proofs.LoadedWords.{loaded_holds, loaded_rises}
use Rattle.cell_memory.proofs.cells.Cells.load.Goals as goal

pub returns-clause-holds : goal.returns-clause-holds
returns-clause-holds c regions at number covers held there small =
    subst (λ (s : Span). Holds s number) (sym c.value_at.ensures.value)
    (loaded_holds c.args.address.now c.args.self.now regions at number covers held there small)

pub returns-clause-rises : goal.returns-clause-rises
returns-clause-rises c wider fewer p q u v =
    subst (λ (s : Span). leq s (loaded wider fewer) ≡ true) (sym c.value_at.ensures.value)
    (loaded_rises c.args.address.now wider c.args.self.now fewer c.step-shape.ensures.shape c.value_at.ensures.words p q u v)
