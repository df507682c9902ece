-- The turns of each loop instance stand behind those before it.
use Rattle.std.proofs.Common.{◌≡◌, ℕ, ◌+◌, ◌*◌, ◌<◌, ◌^◌, Bool, List, Some, get_or, take, subst, sym, ap, ◌∙◌, length, arith}
use Rattle.std.proofs.lemmas.List.{take_all}
use Rattle.std.proofs.lemmas.List.Elements.{All-more, All-same}
use Rattle.flow_net.specs.Numbers.{item_at}
use Rattle.flow_net.specs.Scopes.{ChainsEnd}
use Rattle.flow_net.specs.declared.net.LoopInst.{LoopInst}
use Rattle.ipet_program.specs.Sums.{numbered}
use Rattle.ipet_program.specs.Tables.{TellsWithin, in_128, turns_round}
use Rattle.ipet_program.proofs.Bits128.{in_128-mul}
use Rattle.ipet_program.proofs.Numbered.{item-read, numbered-push}
use Rattle.ipet_program.proofs.Rounds.{turns-outward}
use Rattle.ipet_program.proofs.turns.turns_of.Goals as goal

swapped : (a b : ℕ) → a * b ≡ b * a
swapped a b = omega arith

-- The bound times the turns of the next scope outward.
one_more : (loops : List LoopInst) → ChainsEnd loops → (within : ℕ → ℕ → Bool) → TellsWithin loops within →
    (index : ℕ) (inst : LoopInst) (outward bound turns : ℕ) → item_at (index + 1) loops ≡ Some inst →
    outward ≡ in_128 (turns_round loops within inst.outer) → bound ≡ inst.bound → turns ≡ in_128 (outward * bound) →
    turns ≡ in_128 (turns_round loops within (index + 1))
one_more loops chains within tells index inst outward bound turns there round same made =
    made ∙ ap (λ (x : ℕ). in_128 (x * bound)) round ∙ in_128-mul (turns_round loops within inst.outer) bound
    ∙ ap in_128 (swapped (turns_round loops within inst.outer) bound
    ∙ ap (λ (x : ℕ). x * turns_round loops within inst.outer) same
    ∙ sym (turns-outward loops chains within tells (index + 1) inst there))

pub loop-inst-preserved : goal.loop-inst-preserved
loop-inst-preserved c =
    let loops = c.args.loops.now in
    let index = c.loop-inst.inst-index in
    let none : LoopInst = record { header = 0; bound = 0; outer = 0 } in
    record {
      known = λ within tells.
          numbered-push (λ scope. in_128 (turns_round loops within scope)) index c.loop-inst.turns.items
          c.push.new.self.items c.saturating_mul.result (c.loop-inst.invariant.known within tells)
          c.in_ok-push.ensures.items
          (one_more loops c.requires.chains.ends within tells index (get_or loops index none)
          c.turns_round-outward.result c.from.result c.saturating_mul.result
          (item-read loops loops index none (λ _. loops) c.loop-inst-test.true)
          (c.turns_round-outward.ensures.turns within tells) c.from.ensures c.saturating_mul.ensures);
      bounds = All-more (λ (inst : LoopInst). inst.bound < 2 ^ 32) loops index none c.loop-inst-test.true
          c.loop-inst.invariant.bounds (omega arith);
    }

pub returns-clause-turns : goal.returns-clause-turns
returns-clause-turns c = λ within tells.
    let loops = c.args.loops.now in
    let all : c.loop-inst.inst-index ≡ length loops = omega arith in
    subst (λ (n : ℕ). c.loop-inst.turns.items ≡ numbered (λ scope. in_128 (turns_round loops within scope)) n) all
    (c.loop-inst.invariant.known within tells)

pub returns-clause-bounds : goal.returns-clause-bounds
returns-clause-bounds c =
    let loops = c.args.loops.now in
    let all : take c.loop-inst.inst-index loops ≡ loops = take_all c.loop-inst.inst-index loops (omega arith) in
    All-same (λ (inst : LoopInst). inst.bound < 2 ^ 32) loops (take c.loop-inst.inst-index loops) (sym all)
    c.loop-inst.invariant.bounds
