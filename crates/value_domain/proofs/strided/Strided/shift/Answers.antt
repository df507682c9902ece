-- What the span of a shift holds, and that it rises.
use Rattle.std.proofs.Common.{ap, ◌∙◌}
use Rattle.value_domain.specs.Spans.{Span}
use Rattle.value_domain.specs.Results.{shift_span}
use Rattle.value_domain.proofs.ResultSpans.{shift_holds, shift_single, shift_rises, shift_strided, single_small}
use Rattle.value_domain.proofs.strided.Strided.shift.Goals as goal

pub returns-clause-holds : goal.returns-clause-holds
returns-clause-holds c x h =
    rw (c.shifted.ensures, c.from.ensures) (shift_holds c.args.op c.args.a.now c.args.by x c.requires c.step-shape.ensures.shape h)

pub returns-clause-single : goal.returns-clause-single
returns-clause-single c x p =
    rw (c.shifted.ensures, c.from.ensures)
    (ap (λ (s : Span). shift_span c.args.op s c.args.by) p
    ∙ shift_single c.args.op c.args.by x c.requires (single_small c.args.a.now x c.step-shape.ensures.shape p))

pub returns-clause-rises : goal.returns-clause-rises
returns-clause-rises c s p u =
    rw (c.shifted.ensures, c.from.ensures) (shift_rises c.args.op c.args.a.now s c.args.by c.step-shape.ensures.shape u)

pub returns-clause-shape : goal.returns-clause-shape
returns-clause-shape c = rw (c.shifted.ensures, c.from.ensures) (shift_strided c.args.op c.args.a.now c.args.by c.step-shape.ensures.shape)
