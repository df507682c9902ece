-- Where each outer scope is lesser, the numbers are the depths.
use Rattle.std.proofs.Common.{◌≡◌, ◌<◌, ◌≤◌, All, List, length, subst}
use Rattle.flow_net.specs.declared.net.LoopInst.{LoopInst}
use Rattle.flow_net.specs.declared.net.Net.{Net}
use Rattle.flow_net.specs.declared.net.Place.{Place}
use Rattle.flow_net.specs.Scopes.{HasScopes}
use Rattle.fixpoint.specs.Upward.{EachItem}
use Rattle.fixpoint.proofs.UpwardNets.{scopes-upward}
use Rattle.fixpoint.proofs.upward.has_scopes.Goals as goal

scopes_by : (net : Net) (loops : List LoopInst) (places : List Place) → loops ≡ net.loops → places ≡ net.places →
    EachItem (λ scope (inst : LoopInst). inst.outer < scope) (length loops) loops →
    All (λ (place : Place). place.scope ≤ length loops) places → HasScopes net
scopes_by net loops places same also falls scopes =
    scopes-upward net
    (subst (λ (xs : List LoopInst). EachItem (λ scope (inst : LoopInst). inst.outer < scope) (length xs) xs) same falls)
    (subst (λ (xs : List LoopInst). All (λ (place : Place). place.scope ≤ length xs) net.places) same
    (subst (λ (xs : List Place). All (λ (place : Place). place.scope ≤ length loops) xs) also scopes))

pub returns : goal.returns
returns c = record {
  scopes = scopes_by c.args.net.now c.as_slice-loops.result.now c.as_slice.result.now c.as_slice-loops.ensures
      c.as_slice.ensures c.if-not-outers_fall.ensures.fall c.if-not-have_scopes.ensures.scopes;
}
