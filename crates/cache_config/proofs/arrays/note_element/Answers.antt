use Rattle.std.proofs.Common.{◌∙◌, ◌≤◌, length, arith}
use Rattle.std.proofs.lemmas.Result.{on_ok_weaker}
use Rattle.cache_config.specs.Joints.{rule_of}
use Rattle.cache_config.specs.Rows.{tables_of}
use Rattle.cache_config.proofs.FirstLemmas.{first_of-element}
use Rattle.cache_config.proofs.arrays.note_element.Goals as goal

pub returns : goal.returns
returns c =
    let few : length c.args.values.now ≤ c.args.tables.most = omega (arith, c.if-values-tables.false) in
    on_ok_weaker c.note_joint.result
    (λ placed. placed ∙ rw (c.in_ok-note_shape.ensures)
    (first_of-element c.args.first.now (tables_of c.args.tables) (rule_of c.args.joint) c.args.values.now c.args.at c.args.value.now few))
    c.note_joint.ensures
