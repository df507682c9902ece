-- The place and the scopes of each stage have rows.
use Rattle.std.proofs.Common.{◌≡◌, length, sym, ap, subst, ◌∙◌, arith}
use Rattle.std.proofs.lemmas.List.Elements.{All-get_or, All-weaker}
use Rattle.flow_net.specs.Numbers.{IsNumberOrZero}
use Rattle.ipet_program.specs.StageTables.{IsStageOf, entering_row, into_row}
use Rattle.ipet_program.proofs.Numbered.{length-numbered}
use Rattle.ipet_program.proofs.stage_rows.stage_rows.Goals as goal

pub add_stage-requires-clause-place : goal.add_stage-requires-clause-place
add_stage-requires-clause-place c =
    let net = c.args.net.now in
    let stage = c.index-stages-index.result in
    let known : IsStageOf net stage =
    subst (IsStageOf net) (sym c.index-stages-index.is)
    (All-get_or (IsStageOf net) c.args.stages.now c.loop-index.index stage c.loop-index-test.true c.requires.known) in
    let long : length c.deref.result.now ≡ length net.places =
    ap length (c.deref.ensures.value ∙ c.in_ok-into.ensures.rows)
    ∙ length-numbered (into_row net.arcs (length net.arcs)) (length net.places) in
    record { from_one = known.place.from_one; within = omega (arith, long, known.place.within) }

pub add_stage-requires-clause-firsts : goal.add_stage-requires-clause-firsts
add_stage-requires-clause-firsts c =
    let net = c.args.net.now in
    let stage = c.index-stages-index.result in
    let known : IsStageOf net stage =
    subst (IsStageOf net) (sym c.index-stages-index.is)
    (All-get_or (IsStageOf net) c.args.stages.now c.loop-index.index stage c.loop-index-test.true c.requires.known) in
    let long : length c.deref-in-loop-index.result.now ≡ length net.loops =
    ap length (c.deref-in-loop-index.ensures.value ∙ c.in_ok-entering.ensures.rows)
    ∙ length-numbered (entering_row net (length net.arcs)) (length net.loops) in
    All-weaker (IsNumberOrZero net.loops) (IsNumberOrZero c.deref-in-loop-index.result.now)
    (λ scope within. omega (arith, within, long)) stage.firsts known.firsts
