use Rattle.std.proofs.Common.{ℕ, ◌∷◌, ◌++◌, ◌-◌, ◌*◌, [], List, ap, ◌∙◌, set, length, subst, sym, arith, length-append}
use Rattle.loop_nest.specs.Ranks.{IsWalk}
use Rattle.loop_nest.proofs.Walking.{walk_on}
use Rattle.loop_nest.proofs.ranks.go_on.Goals as goal

pub returns-clause-walk : goal.returns-clause-walk
returns-clause-walk c entry count walk =
    let rest = c.args.trail.now.items in
    let v = 2 * length c.args.table.now - c.len.result in
    subst (IsWalk c.args.table.now entry (set c.args.numbers.now c.args.next v) count)
    (sym (c.in_ok-push-2.ensures.items ∙ ap (λ (xs : List ℕ). xs ++ c.args.next ∷ []) c.in_ok-push.ensures.items))
    (walk_on c.args.table.now entry c.args.numbers.now count rest c.args.last c.args.next walk
    c.requires.step c.requires.within c.requires.new v
    (omega (arith, c.requires.short, c.len.ensures, length-append rest (c.args.last ∷ []), ap length c.in_ok-push.ensures.items, c.push.new.self.ok)))
