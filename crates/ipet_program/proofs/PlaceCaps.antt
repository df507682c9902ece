-- A place is come to at most as often as the loops round it let it be visited, for each time that the run begins.
use Rattle.std.proofs.Common.{◌≡◌, ℕ, zero, suc, ◌+◌, ◌-◌, ◌*◌, ◌≤◌, ◌<◌, Bool, true, false, length, get_or, Option, Some, None, refl, ap, ◌∙◌, subst, inl, inr, arith}
use Rattle.std.specs.Prelude.{◌==◌}
use Rattle.std.proofs.Math.Nat.{mul-le-mul_left}
use Rattle.std.proofs.lemmas.Bool.{cases_eq}
use Rattle.std.proofs.lemmas.Bool.Decides.{nat_tests}
use Rattle.std.proofs.lemmas.Int.{ints}
use Rattle.std.proofs.lemmas.Option.{none-some}
use lib.IntN.{ℤ, pos, ◌*ℤ◌}
use lib.Signed.{◌≤ℤ◌}
use Rattle.flow_net.specs.Nested.{IsNested}
use Rattle.flow_net.specs.Numbers.{item_at, IsNumberOrZero}
use Rattle.flow_net.specs.Scopes.{Holds, holds_of, IsWithin}
use Rattle.flow_net.specs.Scopes.IsWithin.{here, out}
use Rattle.flow_net.specs.declared.net.LoopInst.{LoopInst}
use Rattle.flow_net.specs.declared.net.Net.{Net}
use Rattle.flow_net.specs.declared.net.NetArc.{NetArc}
use Rattle.flow_net.specs.declared.net.Place.{Place}
use Rattle.flow_net.proofs.Headers.{header-scope}
use Rattle.flow_net.proofs.Holds.{holds-place, holds-run}
use Rattle.flow_net.proofs.Numbers.{item_at-all, item_at-same, item_at-there, item_at-within}
use Rattle.flow_net.proofs.Round.{holds_of-tells}
use Rattle.ipet_program.specs.Rows.{goes_from, one_if}
use Rattle.ipet_program.specs.Scopes.{turns_at}
use Rattle.ipet_program.specs.Sums.{product_to}
use Rattle.ipet_program.proofs.FlowSums.{flow, into, MeetsFlow, out_of}
use Rattle.ipet_program.proofs.PlaceFlow.{enter, forward-enter, forward-into, header-bound, high-header, high-place, within-both}
use Rattle.ipet_program.proofs.ScopeFlow.{IsHigh, loop-flow, run-flow}
use Rattle.ipet_program.proofs.Totals.{total_to-one}
use Rattle.ipet_program.proofs.TurnsAt.{product-positive, product-step, turn, turn-free, turn-held, turn-order, turn-positive}
use Rattle.ipet_program.proofs.Whole.{mul-order}

-- ---- The run begins as often as arc 1 is taken.
out-none : (net : Net) (nested : IsNested net) (j : ℕ) → (j ≡ 1 → ⊥) → (found : Option NetArc) →
    item_at j net.arcs ≡ found → one_if (goes_from 0 found) ≡ pos 0
out-none net nested j differ None there = refl
out-none net nested j differ (Some arc) there =
    elim (cases_eq arc.from 0) as (λ _. one_if (arc.from == 0) ≡ pos 0) [
      | inl outside ↦ absurd (differ (nested.entered.only j arc there outside))
      | inr inside ↦
          let e : (arc.from == 0) ≡ false = grind (arith, nat_tests) in
          ap one_if e
    ]

pub flow-start : (net : Net) (nested : IsNested net) (counts : ℕ → ℕ) →
    flow net counts (out_of net 0) ≡ pos (counts 1)
flow-start net nested counts =
    let first = nested.entered.first in
    let number = item_at-within net.arcs 1 first.0 first.1 in
    let e : (first.0.from == 0) ≡ true = (let outside = first.2 in grind (arith, nat_tests)) in
    let one : out_of net 0 1 ≡ pos 1 =
    ap (λ (found : Option NetArc). one_if (goes_from 0 found)) first.1 ∙ ap one_if e in
    total_to-one (λ j. out_of net 0 j *ℤ pos (counts j)) (length net.arcs) 1 number.from_one number.within
    (λ j differ. ap (λ (z : ℤ). z *ℤ pos (counts j))
    (out-none net nested j differ (item_at j net.arcs) refl) ∙ omega (arith, ints))
    ∙ ap (λ (z : ℤ). z *ℤ pos (counts 1)) one
    ∙ omega (arith, ints)

-- ---- Turns.
not-held : (test : Bool) → (test ≡ true → ⊥) → test ≡ false
not-held true h = absurd (h refl)
not-held false h = refl

-- Round a place of a loop lie the loop and what lies round the next header outward.
turns-inside : (net : Net) (nested : IsNested net) (number : ℕ) (place : Place) →
    item_at number net.places ≡ Some place → (inst : LoopInst) →
    item_at place.scope net.loops ≡ Some inst → (outer : LoopInst) →
    item_at inst.outer net.loops ≡ Some outer →
    inst.bound * turns_at net outer.header ≤ turns_at net number
turns-inside net nested number place there inst at outer next =
    let scope = place.scope in
    let number_of = item_at-within net.loops scope inst at in
    let own : Holds net scope number = record { place = place; there = there; within = here } in
    let header = nested.held inst.outer outer next in
    let same : header.place.scope ≡ inst.outer = header-scope net nested inst.outer outer header.place next header.there in
    let around : (k : ℕ) → Holds net k outer.header → IsWithin net.loops k inst.outer =
    λ k held. subst (IsWithin net.loops k) same
    (holds-place net k outer.header header.place header.there held) in
    product-step (length net.loops) (turn net number) (turn net outer.header) scope inst.bound
    number_of.from_one number_of.within
    (λ k differ. turn-order net nested outer.header number k
    (λ held. (holds_of-tells net nested.scopes k number).1 (record {
      place = place;
      there = there;
      within = out scope inst at (around k ((holds_of-tells net nested.scopes k outer.header).0 held));
    })))
    (turn-held net number scope inst at ((holds_of-tells net nested.scopes scope number).1 own))
    (turn-free net outer.header scope (not-held (holds_of net scope outer.header)
    (λ held.
    let e : scope ≡ inst.outer = within-both net.loops nested.scopes.chains scope inst.outer
    (around scope ((holds_of-tells net nested.scopes scope outer.header).0 held)) (out scope inst at here) in
    omega (arith, nested.scopes.chains.falls scope inst at, ap nested.scopes.chains.depth e))))

turns-outermost : (net : Net) (nested : IsNested net) (number : ℕ) (place : Place) →
    item_at number net.places ≡ Some place → (inst : LoopInst) →
    item_at place.scope net.loops ≡ Some inst → inst.bound * 1 ≤ turns_at net number
turns-outermost net nested number place there inst at =
    let scope = place.scope in
    let number_of = item_at-within net.loops scope inst at in
    let own : Holds net scope number = record { place = place; there = there; within = here } in
    let step = product-step (length net.loops) (turn net number) (λ k. 1) scope inst.bound
    number_of.from_one number_of.within (λ k differ. turn-positive net nested number k)
    (turn-held net number scope inst at ((holds_of-tells net nested.scopes scope number).1 own)) refl in
    let some = product-positive (length net.loops) (λ k. 1) (λ k. omega arith) in
    let order : inst.bound * 1 ≤ inst.bound * product_to (length net.loops) (λ k. 1) = mul-le-mul_left inst.bound some in
    omega (arith, step, order)

pub turns-positive : (net : Net) (nested : IsNested net) (number : ℕ) →
    1 ≤ turns_at net number
turns-positive net nested number =
    product-positive (length net.loops) (turn net number) (turn-positive net nested number)

-- ---- Putting flows and turns together.
combine : (x f e : ℤ) (bound start outer turns : ℕ) → x ≤ℤ f → f ≤ℤ (pos bound *ℤ e) → e ≤ℤ pos (start * outer) →
    bound * outer ≤ turns → x ≤ℤ pos (start * turns)
combine x f e bound start outer turns one two three four =
    let scaled = mul-order (pos bound) e (pos (start * outer)) (omega (arith, ints)) three in
    let more : start * (bound * outer) ≤ start * turns = mul-le-mul_left start four in
    omega (arith, ints, more, scaled)

module _ (net : Net) (nested : IsNested net)
    (counts : ℕ → ℕ) (meets : MeetsFlow net counts) where
  run-holds : (number : ℕ) → 0 < number → number ≤ length net.places → Holds net 0 number
  run-holds number low high =
      let d : Place = record { context = 0; address = 0; scope = 0 } in
      holds-run net number (get_or net.places (number - 1) d) nested
      (item_at-there net.places number d (record { from_one = low; within = high }))

  start-within : (j : ℕ) (arc : NetArc) → item_at j net.arcs ≡ Some arc → arc.from ≤ length net.places
  start-within j arc there =
      item_at-all (λ (a : NetArc). IsNumberOrZero net.places a.from) net.arcs j arc nested.numbers.starts there

  run-cap : (number : ℕ) (place : Place) → item_at number net.places ≡ Some place → place.scope ≡ 0 →
      flow net counts (into net number) ≤ℤ pos (counts 1 * turns_at net number)
  run-cap number place there outermost =
      let flows = run-flow net nested counts meets run-holds start-within number (into net number)
      (subst (λ (s : ℕ). IsHigh net nested s number) outermost (high-place net nested number place there))
      (forward-into net nested number place there
      (λ inst at same. none-some inst (subst (λ (s : ℕ). item_at s net.loops ≡ Some inst) outermost at))) in
      let start = flow-start net nested counts in
      let some : counts 1 * 1 ≤ counts 1 * turns_at net number =
      mul-le-mul_left (counts 1) (turns-positive net nested number) in
      omega (arith, ints, some)

  into-header : (number : ℕ) (place : Place) → item_at number net.places ≡ Some place → (inst : LoopInst) →
      item_at place.scope net.loops ≡ Some inst →
      flow net counts (into net number) ≤ℤ flow net counts (into net inst.header)
  into-header number place there inst at =
      elim (cases_eq number inst.header)
      as (λ _. flow net counts (into net number) ≤ℤ flow net counts (into net inst.header)) [
        | inl same ↦
            let e : flow net counts (into net number) ≡ flow net counts (into net inst.header) =
            ap (λ (n : ℕ). flow net counts (into net n)) same in
            omega (arith, ints)
        | inr differ ↦ loop-flow net nested counts meets place.scope inst at number (into net number)
            (high-place net nested number place there) differ
            (forward-into net nested number place there
            (λ other also same. differ (same ∙ ap (λ (i : LoopInst). i.header)
            (item_at-same net.loops place.scope other inst also at))))
      ]

  enter-run : (scope : ℕ) (inst : LoopInst) → item_at scope net.loops ≡ Some inst → inst.outer ≡ 0 →
      flow net counts (enter net scope inst) ≤ℤ pos (counts 1 * 1)
  enter-run scope inst at outermost =
      let flows = run-flow net nested counts meets run-holds start-within inst.header
      (enter net scope inst)
      (subst (λ (s : ℕ). IsHigh net nested s inst.header) outermost (high-header net nested scope inst at))
      (forward-enter net nested scope inst at) in
      let start = flow-start net nested counts in
      omega (arith, ints)

  enter-loop : (scope : ℕ) (inst : LoopInst) → item_at scope net.loops ≡ Some inst → (outer : LoopInst) →
      item_at inst.outer net.loops ≡ Some outer →
      flow net counts (enter net scope inst) ≤ℤ flow net counts (into net outer.header)
  enter-loop scope inst at outer next =
      loop-flow net nested counts meets inst.outer outer next inst.header (enter net scope inst)
      (high-header net nested scope inst at)
      (λ same.
      let e : scope ≡ inst.outer = nested.distinct scope inst.outer inst outer at next same in
      omega (arith, nested.scopes.chains.falls scope inst at, ap nested.scopes.chains.depth e))
      (forward-enter net nested scope inst at)

  place-cap : (n number : ℕ) (place : Place) → item_at number net.places ≡ Some place →
      nested.scopes.chains.depth place.scope < n →
      flow net counts (into net number) ≤ℤ pos (counts 1 * turns_at net number)
  place-cap zero number place there deep = absurd (omega arith)
  place-cap (suc n) number place there deep =
      let none : LoopInst = record { header = 0; bound = 0; outer = 0 } in
      elim (cases_eq place.scope 0)
      as (λ _. flow net counts (into net number) ≤ℤ pos (counts 1 * turns_at net number)) [
        | inl outermost ↦ run-cap number place there outermost
        | inr inside ↦
            let inst : LoopInst = get_or net.loops (place.scope - 1) none in
            let within = item_at-all (λ (p : Place). IsNumberOrZero net.loops p.scope) net.places number place
            nested.scopes.places there in
            let at : item_at place.scope net.loops ≡ Some inst =
            item_at-there net.loops place.scope none (record { from_one = omega (arith, inside); within = within }) in
            let falls = nested.scopes.chains.falls place.scope inst at in
            let first = into-header number place there inst at in
            let bounded = header-bound net counts meets place.scope inst at in
            elim (cases_eq inst.outer 0)
            as (λ _. flow net counts (into net number) ≤ℤ pos (counts 1 * turns_at net number)) [
              | inl last ↦ combine (flow net counts (into net number)) (flow net counts (into net inst.header))
                  (flow net counts (enter net place.scope inst)) inst.bound (counts 1) 1
                  (turns_at net number) first bounded (enter-run place.scope inst at last)
                  (turns-outermost net nested number place there inst at)
              | inr more ↦
                  let outer : LoopInst = get_or net.loops (inst.outer - 1) none in
                  let high = item_at-all (λ (i : LoopInst). IsNumberOrZero net.loops i.outer) net.loops place.scope inst
                  nested.scopes.loops at in
                  let next : item_at inst.outer net.loops ≡ Some outer =
                  item_at-there net.loops inst.outer none (record { from_one = omega (arith, more); within = high }) in
                  let header = nested.held inst.outer outer next in
                  let same : header.place.scope ≡ inst.outer =
                  header-scope net nested inst.outer outer header.place next header.there in
                  let entered = enter-loop place.scope inst at outer next in
                  let beyond = place-cap n outer.header header.place header.there
                  (omega (arith, falls, deep, ap nested.scopes.chains.depth same)) in
                  combine (flow net counts (into net number)) (flow net counts (into net inst.header))
                  (flow net counts (enter net place.scope inst)) inst.bound (counts 1)
                  (turns_at net outer.header) (turns_at net number) first bounded
                  (omega (arith, ints, entered, beyond))
                  (turns-inside net nested number place there inst at outer next)
            ]
      ]

  -- What comes to a place.
  pub place-capped : (number : ℕ) (place : Place) → item_at number net.places ≡ Some place →
      flow net counts (into net number) ≤ℤ pos (counts 1 * turns_at net number)
  place-capped number place there =
      place-cap (nested.scopes.chains.depth place.scope + 1) number place there (omega arith)
