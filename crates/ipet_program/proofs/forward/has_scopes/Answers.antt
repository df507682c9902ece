-- Where each outer scope is lesser, the numbers are the depths.
use Rattle.std.proofs.Common.{◌≡◌, ◌≤◌, ◌<◌, List, length, subst, ap, arith}
use Rattle.std.proofs.lemmas.List.Elements.{All-same, All-weaker}
use Rattle.flow_net.specs.Numbers.{IsNumberOrZero}
use Rattle.flow_net.specs.declared.net.LoopInst.{LoopInst}
use Rattle.flow_net.specs.declared.net.Net.{Net}
use Rattle.flow_net.specs.declared.net.Place.{Place}
use Rattle.flow_net.specs.Scopes.{HasScopes}
use Rattle.flow_net.proofs.Numbers.{item_at-within}
use Rattle.ipet_program.specs.Forward.{EachItem}
use Rattle.ipet_program.proofs.EachItems.{each-all, each-of}
use Rattle.ipet_program.proofs.forward.has_scopes.Goals as goal
use Rattle.std.proofs.Common.{All, sym}

scopes_by : (net : Net) (loops : List LoopInst) (places : List Place) → loops ≡ net.loops → places ≡ net.places →
    EachItem (λ scope (inst : LoopInst). inst.outer < scope) (length loops) loops →
    All (λ (place : Place). place.scope ≤ length loops) places → HasScopes net
scopes_by net loops places same also falls scopes =
    let each : EachItem (λ scope (inst : LoopInst). inst.outer < scope) (length net.loops) net.loops =
    subst (λ (xs : List LoopInst). EachItem (λ scope (inst : LoopInst). inst.outer < scope) (length xs)
    xs) same falls in
    record {
      places = All-same (λ (place : Place). IsNumberOrZero net.loops place.scope) net.places places (sym also)
          (All-weaker (λ (place : Place). place.scope ≤ length loops)
          (λ (place : Place). IsNumberOrZero net.loops place.scope)
          (λ place h. omega (arith, h, ap length same)) places scopes);
      loops = each-all (λ (inst : LoopInst). IsNumberOrZero net.loops inst.outer) net.loops
          (λ scope inst there. omega (
            arith,
            each-of (λ scope (inst : LoopInst). inst.outer < scope) net.loops each scope inst there,
            (item_at-within net.loops scope inst there).within,
          ));
      chains = record {
        depth = λ scope. scope;
        falls = each-of (λ scope (inst : LoopInst). inst.outer < scope) net.loops each;
      };
    }

pub returns : goal.returns
returns c = record {
  scopes = scopes_by c.args.net.now c.as_slice-loops.result.now c.as_slice.result.now c.as_slice-loops.ensures
      c.as_slice.ensures c.if-not-outers_fall.ensures.fall c.if-not-have_scopes.ensures.scopes;
}
