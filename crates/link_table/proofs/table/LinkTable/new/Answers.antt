-- The links of empty lists.
use Rattle.std.proofs.Common.{rules, ◌≡◌, replicate, None}
use Rattle.link_table.proofs.Calls.{sees-new}
use Rattle.link_table.proofs.table.LinkTable.new.Goals as goal

pub invariant_of-result : goal.invariant_of-result
invariant_of-result c =
    let free : c.in_ok-vec.field-0.items ≡ replicate c.args.items None = c.in_ok-vec.ensures.items_if_clones_equal (λ y h. search rules) in
    (sees-new c.args.items c.args.lists c.in_ok-alone.field-0 c.in_ok-vec.field-0.items c.in_ok-alone.ensures free).stand

pub returns : goal.returns
returns c =
    let free : c.in_ok-vec.field-0.items ≡ replicate c.args.items None = c.in_ok-vec.ensures.items_if_clones_equal (λ y h. search rules) in
    (sees-new c.args.items c.args.lists c.in_ok-alone.field-0 c.in_ok-vec.field-0.items c.in_ok-alone.ensures free).view
