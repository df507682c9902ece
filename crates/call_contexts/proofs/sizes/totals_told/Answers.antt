-- Each turn tells the total of one more position of the order.
use Rattle.std.proofs.Common.{◌≡◌, ℕ, ◌+◌, ◌<◌, length, List, get_or, set, sum_by, sym, ap, subst, ◌∙◌, arith}
use Rattle.std.proofs.lemmas.List.{length-set}
use Rattle.std.proofs.lemmas.Option.{slice_get-get_or}
use Rattle.step_table.specs.Numbers.{number_of}
use Rattle.call_contexts.specs.Counting.{told_of}
use Rattle.call_contexts.proofs.Telling.{AreToldFront, front_all, front_more}
use Rattle.call_contexts.proofs.sizes.totals_told.Goals as goal

pub loop-position-preserved : goal.loop-position-preserved
loop-position-preserved c =
    let place = c.loop-position.position-index in
    let position = get_or c.args.order.now place 0 in
    let told = c.loop-position.told.items in
    let inside : place < length c.args.order.now = omega (arith, c.loop-position-test.true) in
    let within : position < length c.args.table.now = c.requires.finished.within place 0 inside in
    let written : told_of (get_or c.args.own.now position 0 + sum_by (number_of told) c.steps_at.result.now) ≡ c.total_told.result =
    ap (λ (given : List ℕ). told_of (get_or c.args.own.now position 0 + sum_by (number_of given) c.steps_at.result.now)) (sym c.deref.ensures.value)
    ∙ sym c.total_told.ensures in
    record {
      count = length-set told position c.total_told.result ∙ c.loop-position.invariant.count;
      front = subst (λ (value : ℕ). AreToldFront c.args.table.now c.args.own.now c.args.order.now (set told position value) (place + 1)) written
          (front_more c.args.table.now c.args.own.now c.args.order.now told place position (get_or c.args.own.now position 0) c.steps_at.result.now
          c.requires.finished c.loop-position.invariant.front (slice_get-get_or c.args.order.now place 0 inside) c.steps_at.ensures.there
          (slice_get-get_or c.args.own.now position 0 (omega (arith, within, c.requires.count)))
          (omega (arith, within, c.loop-position.invariant.count)));
    }

pub returns-clause-told : goal.returns-clause-told
returns-clause-told c =
    let ends : c.loop-position.position-index ≡ length c.args.order.now = omega (arith, c.loop-position-test.false, c.loop-position.auto.position-index-end) in
    front_all c.args.table.now c.args.own.now c.args.order.now c.loop-position.told.items c.requires.finished
    (subst (λ (count : ℕ). AreToldFront c.args.table.now c.args.own.now c.args.order.now c.loop-position.told.items count) ends c.loop-position.invariant.front)
