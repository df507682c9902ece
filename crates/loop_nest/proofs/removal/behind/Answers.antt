use Rattle.std.proofs.Common.{◌∷◌, [], Bool, List, ℕ, subst, sym}
use Rattle.std.proofs.lemmas.Result.{IfOk-weaker}
use Rattle.step_table.specs.Search.{IsSeen}
use Rattle.step_table.specs.Table.{IsMet}
use Rattle.loop_nest.proofs.Choosing.{AreChosen, chosen_as}
use Rattle.loop_nest.proofs.removal.behind.Goals as goal

pub returns : goal.returns
returns c =
    IfOk-weaker c.unseen_of.result (AreChosen (λ (x : ℕ). IsSeen c.deref.result.now x → ⊥) c.args.positions.now)
    (AreChosen (λ (x : ℕ). IsMet c.args.table.now (c.args.entry ∷ []) c.args.header x → ⊥) c.args.positions.now)
    (λ list are. chosen_as (λ (x : ℕ). IsSeen c.deref.result.now x → ⊥)
    (λ (x : ℕ). IsMet c.args.table.now (c.args.entry ∷ []) c.args.header x → ⊥) c.args.positions.now list are
    (λ x. (
      λ unseen met. unseen (subst (λ (seen : List Bool). IsSeen seen x) (sym c.deref.ensures.value) (c.in_ok-seen.ensures.whole x met)),
      λ unmet seen. unmet (c.in_ok-seen.ensures.sound x (subst (λ (seen : List Bool). IsSeen seen x) c.deref.ensures.value seen)),
    )))
    c.unseen_of.ensures
