use Rattle.std.proofs.Common.{◌∙◌, ◌+◌, ap, drop, sym}
use Rattle.std.specs.Prelude.{slice_index_or}
use Rattle.cache_config.proofs.StageLemmas.{later-item, passed-stages, served-stages, stages}
use Rattle.cache_config.proofs.costs.latency_after.Goals as goal
use Rattle.cache_config.proofs.costs.latency_after.Goals.{then-serves+else-before-eq0, else-serves}

pub loop-level-preserved : goal.loop-level-preserved
loop-level-preserved c =
    let side = c.args.side in
    let memory = c.args.memory in
    let levels = c.args.levels.now in
    let at = c.loop-level.level-index in
    let level = c.level-item.result in
    elim c.if-serves.branch [
      | then-serves+else-before-eq0 w ↦
          let here = served-stages side memory levels at level c.loop-level-test.true (sym c.level-item.is) (sym c.serves.ensures ∙ w.if-serves.true) in
          rw w.before-is (later-item level.latency (stages side memory (drop (at + 1) levels)) c.loop-level.before w.if-before-eq0.false
          ∙ ap (λ ns. slice_index_or ns c.loop-level.before 0) (sym here) ∙ c.loop-level.invariant)
      | else-serves w ↦
          let here = passed-stages side memory levels at level c.loop-level-test.true (sym c.level-item.is) (sym c.serves.ensures ∙ w.if-serves.false) in
          rw w.before-is (ap (λ ns. slice_index_or ns c.loop-level.before 0) (sym here) ∙ c.loop-level.invariant)
    ]
