-- What the span of an operation on two values holds, and that it rises.
use Rattle.std.proofs.Common.{ap, ◌∙◌}
use Rattle.value_domain.specs.Spans.{Span, single}
use Rattle.value_domain.specs.Results.{three_span}
use Rattle.value_domain.proofs.ResultSpans.{three_holds, three_single, three_rises, three_strided, single_small}
use Rattle.value_domain.proofs.strided.Strided.three.Goals as goal

pub returns-clause-holds : goal.returns-clause-holds
returns-clause-holds c x y n h k e =
    rw c.three_span.ensures (three_holds c.args.op c.args.a.now c.args.b.now x y n c.step.ensures.shape c.step-2.ensures.shape h k e)

pub returns-clause-single : goal.returns-clause-single
returns-clause-single c x y n p q e =
    c.three_span.ensures
    ∙ ap (λ (s : Span). three_span c.args.op s c.args.b.now) p
    ∙ ap (three_span c.args.op (single x)) q
    ∙ three_single c.args.op x y n (single_small c.args.a.now x c.step.ensures.shape p) (single_small c.args.b.now y c.step-2.ensures.shape q) e

pub returns-clause-rises : goal.returns-clause-rises
returns-clause-rises c s t p q u v =
    rw c.three_span.ensures (three_rises c.args.op c.args.a.now c.args.b.now s t c.step.ensures.shape c.step-2.ensures.shape p q u v)

pub returns-clause-shape : goal.returns-clause-shape
returns-clause-shape c = rw c.three_span.ensures (three_strided c.args.op c.args.a.now c.args.b.now c.step.ensures.shape c.step-2.ensures.shape)
