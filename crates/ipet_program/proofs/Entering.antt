-- The test of a loop instance's row tells which arcs enter the instance.
use Rattle.std.proofs.Common.{◌≡◌, ◌↔◌, ℕ, ◌==◌, ◌&&◌, not, Bool, true, false, Option, Some, None, refl, sym, ◌∙◌, ap, true≢false}
use Rattle.std.proofs.lemmas.Bool.{eq-eqb, eqb-true}
use Rattle.std.proofs.lemmas.Option.{none-some}
use Rattle.flow_net.specs.Entering.{Enters, IsOutside}
use Rattle.flow_net.specs.Entering.Enters.{loop, run}
use Rattle.flow_net.specs.Numbers.{item_at}
use Rattle.flow_net.specs.Scopes.{HasScopes, holds_of}
use Rattle.flow_net.specs.declared.net.LoopInst.{LoopInst}
use Rattle.flow_net.specs.declared.net.Net.{Net}
use Rattle.flow_net.specs.declared.net.NetArc.{NetArc}
use Rattle.flow_net.proofs.Numbers.{item_at-same}
use Rattle.flow_net.proofs.Round.{holds_of-tells}
use Rattle.ipet_program.specs.Rows.{is_entering}
use Rattle.ipet_program.proofs.Told.{not_told}

both_true : (to held : Bool) → (to && not held) ≡ true → (to ≡ true) × (held ≡ false)
both_true true true e = absurd (true≢false (sym e))
both_true true false e = (refl, refl)
both_true false held e = absurd (true≢false (sym e))

true_both : (to held : Bool) → to ≡ true → held ≡ false → (to && not held) ≡ true
true_both to held e f = ap (λ (b : Bool). b && not held) e ∙ ap not f

module _ (net : Net) (scopes : HasScopes net) where
  tests_enter : (scope number : ℕ) (inst : LoopInst) → item_at scope net.loops ≡ Some inst →
      (found : Option NetArc) → item_at number net.arcs ≡ found →
      is_entering (holds_of net scope) inst.header found ≡ true → Enters net scope number
  tests_enter scope number inst at None there e = absurd (true≢false (sym e))
  tests_enter scope number inst at (Some arc) there e =
      let parts = both_true (arc.to == inst.header) (holds_of net scope arc.from) e in
      let outside : IsOutside net scope arc.from =
      λ held. true≢false (sym ((holds_of-tells net scopes scope arc.from).1 held) ∙ parts.1) in
      loop scope number inst arc at there (eqb-true arc.to inst.header parts.0) outside

  enters_test : (scope number : ℕ) (inst : LoopInst) → item_at scope net.loops ≡ Some inst →
      Enters net scope number → is_entering (holds_of net scope) inst.header (item_at number net.arcs) ≡ true
  enters_test _ _ inst at run = absurd (none-some inst at)
  enters_test _ _ inst at (loop scope number own arc own_at there header outside) =
      let same : own ≡ inst = item_at-same net.loops scope own inst own_at at in
      ap (is_entering (holds_of net scope) inst.header) there
      ∙ true_both (arc.to == inst.header) (holds_of net scope arc.from)
      (eq-eqb arc.to inst.header (header ∙ ap (λ (i : LoopInst). i.header) same))
      (not_told (holds_of net scope arc.from) (λ e. outside ((holds_of-tells net scopes scope arc.from).0 e)))

-- The test of the row holds of an arc where the arc enters the loop instance.
pub is_entering-enters : (net : Net) → HasScopes net → (scope number : ℕ) (inst : LoopInst) →
    item_at scope net.loops ≡ Some inst →
    (is_entering (holds_of net scope) inst.header (item_at number net.arcs) ≡ true) ↔ Enters net scope number
is_entering-enters net scopes scope number inst at = (
  λ e. tests_enter net scopes scope number inst at (item_at number net.arcs) refl e,
  λ enters. enters_test net scopes scope number inst at enters,
)
