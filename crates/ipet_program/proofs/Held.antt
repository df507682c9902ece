-- The turns of a place are those of its scope.
use Rattle.std.proofs.Common.{◌≡◌, ℕ, Bool, List, length, Some, ◌∙◌, ap}
use Rattle.std.specs.Prelude.{if◌then◌else◌}
use Rattle.flow_net.specs.Numbers.{item_at}
use Rattle.flow_net.specs.Scopes.{ChainsEnd, HasScopes, holds_of}
use Rattle.flow_net.specs.declared.net.Net.{Net}
use Rattle.flow_net.specs.declared.net.Place.{Place}
use Rattle.flow_net.proofs.Holds.{holds-place}
use Rattle.flow_net.proofs.Round.{holds_of-tells}
use Rattle.ipet_program.specs.Scopes.{bound_of, turns_at}
use Rattle.ipet_program.specs.Tables.{AreTurns, TellsWithin, in_128, turns_round}
use Rattle.ipet_program.proofs.Numbered.{length-numbered}
use Rattle.ipet_program.proofs.Products.{product_to-same}
use Rattle.ipet_program.proofs.Told.{same_told}
use Rattle.ipet_program.proofs.Rounds.{within_test, within_test-tells}
use Rattle.flow_net.specs.declared.net.LoopInst.{LoopInst}

-- The scopes that hold a place are those round its innermost scope.
pub turns_at-round : (net : Net) → HasScopes net → (within : ℕ → ℕ → Bool) →
    TellsWithin net.loops within → (number : ℕ) (place : Place) →
    item_at number net.places ≡ Some place →
    turns_round net.loops within place.scope ≡ turns_at net number
turns_at-round net scopes within tells number place there =
    product_to-same (length net.loops)
    (λ scope. if within scope place.scope then bound_of (item_at scope net.loops) else 1)
    (λ scope. if holds_of net scope number then bound_of (item_at scope net.loops) else 1)
    (λ scope low high. ap (λ (b : Bool). if b then bound_of (item_at scope net.loops) else 1)
    (same_told (within scope place.scope) (holds_of net scope number)
    (λ e. (holds_of-tells net scopes scope number).1 (record {
      place = place;
      there = there;
      within = (tells scope place.scope).0 e;
    }))
    (λ e. (tells scope place.scope).1 (holds-place net scope number place there ((holds_of-tells net scopes scope number).0 e)))))

-- The table of turns has one for each loop instance.
pub length-turns : (loops : List LoopInst) (chains : ChainsEnd loops) (turns : List ℕ) → AreTurns loops turns →
    length turns ≡ length loops
length-turns loops chains turns are =
    ap length (are (within_test loops chains) (within_test-tells loops chains))
    ∙ length-numbered (λ scope. in_128 (turns_round loops (within_test loops chains) scope)) (length loops)
