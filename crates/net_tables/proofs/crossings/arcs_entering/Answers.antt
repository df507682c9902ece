-- The arcs by the loop instance that they enter, and arc 1 for the run.
use Rattle.std.specs.Prelude.{ℕ, List, length, slice_set}
use Rattle.std.proofs.Common.{◌∙◌, subst, sym}
use Rattle.flow_net.specs.declared.net.LoopInst.{LoopInst}
use Rattle.net_tables.specs.Crossings.{AreArcsEntering}
use Rattle.net_tables.specs.Numbers.{AreNumbers}
use Rattle.net_tables.proofs.Entered.{entering-all}
use Rattle.net_tables.proofs.crossings.arcs_entering.Goals as goal

pub returns : goal.returns
returns c =
    subst (λ (first : List ℕ). AreArcsEntering c.args.net.now (slice_set c.in_ok-lists.lists.items 0 first))
    (sym (c.from_vec.ensures ∙ c.in_ok-first.ensures.items))
    (entering-all c.args.net.now c.in_ok-scopes.scopes.items c.in_ok-lists.lists.items c.requires.net
    c.in_ok-scopes.ensures.entered
    (subst (λ (keys : List ℕ). AreNumbers (length c.args.net.now.loops) keys c.in_ok-lists.lists.items) c.deref.ensures.value
    (subst (λ (loops : List LoopInst). AreNumbers (length loops) c.deref.result.now c.in_ok-lists.lists.items)
    c.as_slice.ensures c.in_ok-lists.ensures)))
