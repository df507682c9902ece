use Rattle.std.proofs.Common.{◌≡◌, ℕ, ◌==◌, ◌&&◌, not, Bool, true, false, sym, ap, ◌∙◌, arith, true≢false}
use Rattle.std.proofs.lemmas.Bool.Decides.{nat_tests}
use Rattle.flow_net.specs.Numbers.{item_at}
use Rattle.flow_net.specs.Visits.{target_of}
use Rattle.flow_net.specs.Scopes.{holds_of}
use Rattle.nest_solver.specs.Nets.{entry}
use Rattle.nest_solver.proofs.headers.returns.Goals as goal

back_is : (t : ℕ) (b h : Bool) → (t ≡ 0 → ⊥) → b ≡ h → b ≡ (not (t == 0) && h)
back_is t true h some e = grind (arith, nat_tests)
back_is t false true some e = absurd (true≢false (sym e))
back_is t false false some e = grind (arith, nat_tests)

pub returns : goal.returns
returns c =
    let net = c.args.net.now in
    let headed = entry c.args.headed.now in
    let scope = headed c.target.result in
    let from = c.source-from.result in
    record {
      back = back_is scope c.held.result (holds_of net scope from) c.if-scope-eq0.false c.held.ensures.told
          ∙ ap (λ (to : ℕ). not (headed to == 0) && holds_of net (headed to) from) c.target.ensures
          ∙ ap (λ (p : ℕ). not (headed (target_of (item_at c.args.arc net.arcs)) == 0)
          && holds_of net (headed (target_of (item_at c.args.arc net.arcs))) p) c.source-from.ensures;
    }
