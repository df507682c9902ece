-- Ends and step without their low bits.
use Rattle.std.proofs.Common.{ℕ, ◌%◌, ◌^◌, ap, ◌∙◌}
use Rattle.value_domain.specs.Spans.{Span}
use Rattle.value_domain.proofs.ShiftedSpans.{strided_down}
use Rattle.value_domain.proofs.strided.Strided.scaled_down.Goals as goal

pub invariant_of-result : goal.invariant_of-result
invariant_of-result c =
    let e = ap (λ (s : Span). s.step) c.self.view_is in
    strided_down (record { lo = c.self.inside.lo; hi = c.self.inside.hi; step = c.self.inside.step }) c.args.by c.self.invariant
    (ap (λ (n : ℕ). n % 2 ^ c.args.by) e ∙ c.requires.kept)
