use Rattle.std.proofs.Common.{ℕ, ◌∷◌, [], List, length, subst, sym, arith, ap, length-append}
use Rattle.step_table.specs.Table.{IsStep}
use Rattle.step_table.proofs.Reversing.{no_step_push}
use Rattle.step_table.proofs.table.empty_lists.Goals as goal

pub loop-preserved : goal.loop-preserved
loop-preserved c = record {
  count = omega (arith, c.loop.invariant.count, c.in_ok-push.ensures.items, ap length c.in_ok-push.ensures.items, length-append c.loop.lists.items (c.new.result ∷ []));
  empty = subst (λ (lists : List (List ℕ)). (from to : ℕ) → IsStep lists from to → ⊥) (sym c.in_ok-push.ensures.items)
      (no_step_push c.loop.lists.items c.new.result c.loop.invariant.empty c.new.ensures);
}
