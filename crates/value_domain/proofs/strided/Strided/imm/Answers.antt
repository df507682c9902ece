-- What the span of an operation on an immediate holds, and that it rises.
use Rattle.std.proofs.Common.{◌<◌, ◌^◌, ap, ◌∙◌, arith}
use Rattle.value_domain.specs.Spans.{Span}
use Rattle.value_domain.specs.Results.{imm_span}
use Rattle.value_domain.proofs.ResultSpans.{imm_holds, imm_single, imm_rises, imm_strided, single_small}
use Rattle.value_domain.proofs.strided.Strided.imm.Goals as goal

pub returns-clause-holds : goal.returns-clause-holds
returns-clause-holds c x n h e =
    let lt : c.args.imm < 2 ^ 16 = omega arith in
    rw c.imm_span.ensures (imm_holds c.args.op c.args.a.now c.args.imm x n lt c.step-shape.ensures.shape h e)

pub returns-clause-single : goal.returns-clause-single
returns-clause-single c x n p e =
    let lt : c.args.imm < 2 ^ 16 = omega arith in
    c.imm_span.ensures ∙ ap (λ (s : Span). imm_span c.args.op s c.args.imm) p
    ∙ imm_single c.args.op c.args.imm x n lt (single_small c.args.a.now x c.step-shape.ensures.shape p) e

pub returns-clause-rises : goal.returns-clause-rises
returns-clause-rises c s p u =
    let lt : c.args.imm < 2 ^ 16 = omega arith in
    rw c.imm_span.ensures (imm_rises c.args.op c.args.a.now s c.args.imm lt c.step-shape.ensures.shape u)

pub returns-clause-shape : goal.returns-clause-shape
returns-clause-shape c =
    let lt : c.args.imm < 2 ^ 16 = omega arith in
    rw c.imm_span.ensures (imm_strided c.args.op c.args.a.now c.args.imm lt c.step-shape.ensures.shape)
