use Rattle.std.proofs.Common.{◌∷◌, [], List, ℕ, get_or, subst, sym, take}
use Rattle.step_table.specs.Search.{Sees}
use Rattle.std.proofs.lemmas.List.{take_more}
use Rattle.step_table.proofs.Seen.{Sees-then}
use Rattle.step_table.proofs.search.see_all.Goals as goal

pub loop-position-preserved : goal.loop-position-preserved
loop-position-preserved c =
    let at = c.loop-position.position-index in
    let one = get_or c.args.positions.now at 0 in
    let before = take c.loop-position.position-index c.args.positions.now in
    subst
    (λ (positions : List ℕ). Sees positions c.args.barred c.args.seen.now c.args.waiting.now.items c.see.new.seen c.see.new.waiting.items)
    (sym (take_more c.args.positions.now at 0 c.loop-position-test.true))
    (Sees-then before (one ∷ []) c.args.barred c.args.seen.now c.args.waiting.now.items
    c.loop-position.seen c.loop-position.waiting.items c.see.new.seen c.see.new.waiting.items
    c.loop-position.invariant c.in_ok-see.ensures)
