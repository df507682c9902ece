use Rattle.std.proofs.Common.{◌∷◌, [], ◌∙◌, ℕ}
use Rattle.step_table.specs.Table.{IsMet}
use Rattle.loop_nest.proofs.Choosing.{chosen_all}
use Rattle.loop_nest.proofs.Removing.{none_met}
use Rattle.loop_nest.proofs.removal.sources_of.Goals as goal

pub returns-clause-behind : goal.returns-clause-behind
returns-clause-behind c =
    chosen_all (λ (x : ℕ). IsMet c.args.table.now (c.args.entry ∷ []) c.args.header x → ⊥) c.args.positions.now
    c.from_vec.result (c.from_vec.ensures ∙ c.in_ok-from_slice.ensures.items)
    (none_met c.args.table.now c.args.reverse.now c.args.positions.now c.args.entry c.args.header c.requires.reversed
    (λ met. let h = c.in_ok-is_passed.ensures.passed.1 met in let f = c.if-branch.false in cc))
