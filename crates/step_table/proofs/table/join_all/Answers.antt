use Rattle.std.proofs.Common.{◌∷◌, [], ℕ, List, get_or, subst, sym, take}
use Rattle.std.proofs.lemmas.List.{take_more}
use Rattle.step_table.specs.Table.{Joins}
use Rattle.step_table.proofs.Reversing.{joins_then}
use Rattle.step_table.proofs.table.join_all.Goals as goal

pub loop-place-preserved : goal.loop-place-preserved
loop-place-preserved c =
    let at = c.loop-place.place-index in
    subst (λ (places : List ℕ). Joins c.args.lists.now places c.args.item c.join_one.new.lists)
    (sym (take_more c.args.places.now at 0 c.loop-place-test.true))
    (joins_then (take at c.args.places.now) (get_or c.args.places.now at 0 ∷ []) c.args.item
    c.args.lists.now c.loop-place.lists c.join_one.new.lists c.loop-place.invariant c.in_ok-join_one.ensures)
