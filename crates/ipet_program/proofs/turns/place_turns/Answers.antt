-- The turns of a place are those of its innermost scope.
use Rattle.std.proofs.Common.{◌≡◌, ℕ, ◌-◌, ◌≤◌, Some, List, length, get_or, subst, sym, ap, ◌∙◌, arith}
use Rattle.std.proofs.lemmas.List.Elements.{All-get_or}
use Rattle.flow_net.specs.Numbers.{item_at}
use Rattle.flow_net.specs.declared.net.Place.{Place}
use Rattle.flow_net.proofs.Numbers.{item_at-there}
use Rattle.ipet_program.specs.Sums.{numbered}
use Rattle.ipet_program.specs.Tables.{in_128, turns_round}
use Rattle.ipet_program.proofs.Held.{length-turns, turns_at-round}
use Rattle.ipet_program.proofs.Rounds.{turns-run, within_test, within_test-tells}
use Rattle.ipet_program.proofs.turns.place_turns.Goals as goal

nowhere : Place
nowhere = record { context = 0; address = 0; scope = 0 }

pub scope_turns-requires : goal.scope_turns-requires
unfolding nowhere
scope_turns-requires c =
    let net = c.args.net.now in
    let count = length-turns net.loops c.requires.scopes.chains c.args.turns.now c.requires.turns in
    let scope = All-get_or (λ (p : Place). p.scope ≤ length net.loops) net.places (c.args.place - 1) nowhere
    (omega arith) c.requires.scopes.places in
    record {
      scope = subst (λ (ps : List Place). (get_or ps (c.args.place - 1) nowhere).scope ≤ length c.args.turns.now)
          (sym c.as_slice.ensures) (omega (arith, count, scope));
    }

pub returns : goal.returns
unfolding nowhere
returns c =
    let net = c.args.net.now in
    let chains = c.requires.scopes.chains in
    let turns = c.args.turns.now in
    let place = get_or c.as_slice.result.now (c.args.place - 1) nowhere in
    let there : item_at c.args.place net.places ≡ Some place =
    subst (λ (ps : List Place). item_at c.args.place net.places ≡ Some (get_or ps (c.args.place - 1) nowhere))
    (sym c.as_slice.ensures) (item_at-there net.places c.args.place nowhere c.requires.place) in
    let count = length-turns net.loops chains turns c.requires.turns in
    record {
      turns =
          let of : ℕ → ℕ = λ scope. in_128 (turns_round net.loops (within_test net.loops chains) scope) in
          let known : turns ≡ numbered of (length net.loops) =
          c.requires.turns (within_test net.loops chains) (within_test-tells net.loops chains) in
          c.scope_turns.ensures.turns of
          (ap in_128 (turns-run net.loops (within_test net.loops chains) (within_test-tells net.loops chains)))
          (subst (λ (n : ℕ). turns ≡ numbered of n) (sym count) known)
          ∙ ap in_128 (turns_at-round net c.requires.scopes (within_test net.loops chains)
          (within_test-tells net.loops chains) c.args.place place there);
    }
