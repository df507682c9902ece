-- The turns of a number stand at its position.
use Rattle.std.proofs.Common.{◌≡◌, ℕ, ◌-◌, List, length, get_or, subst, sym, arith}
use Rattle.ipet_program.proofs.Numbered.{numbered-get}
use Rattle.ipet_program.proofs.turns.scope_turns.Goals as goal

pub returns : goal.returns
returns c = record {
  turns = λ of run same.
      let scope = c.args.scope in
      let turns = c.args.turns.now in
      subst (λ (items : List ℕ). get_or items (scope - 1) 0 ≡ of scope) (sym same)
      (numbered-get of (length turns) scope 0 (omega arith) (omega arith));
}
