use Rattle.std.proofs.Common.{◌∙◌, sym, map}
use Rattle.toml.specs.View.{view}
use Rattle.cache_config.specs.Faults.{element_faults}
use Rattle.cache_config.specs.Joints.{rule_of}
use Rattle.cache_config.specs.Rows.{tables_of}
use Rattle.cache_config.proofs.FirstLemmas.{numbered-drop}
use Rattle.cache_config.proofs.arrays.note_array.Goals as goal

pub loop-at-preserved : goal.loop-at-preserved
loop-at-preserved c =
    let faults = element_faults (tables_of c.args.tables) (rule_of c.args.joint) (map view c.args.values.now) in
    let step = numbered-drop faults c.loop-at.first c.args.values.now c.loop-at.at c.index-values-at.result c.loop-at-test.true (sym c.index-values-at.is) in
    rw c.in_ok-note_element.ensures (sym step ∙ c.loop-at.invariant)
