-- One way more stands in the list.
use Rattle.std.proofs.Common.{◌+◌, ◌++◌, ◌∷◌, [], ap, subst, sym, ◌∙◌}
use Rattle.link_table.specs.Lists.{Lists, IsFree, items_of, with_list}
use Rattle.lru_concrete.proofs.Ordering.{filled-free, filled-more}
use Rattle.lru_concrete.proofs.order.fill_set.Goals as goal

pub push_back-requires-clause-free : goal.push_back-requires-clause-free
push_back-requires-clause-free c =
    let P : Lists → Type 0 = λ t. IsFree t (c.args.first + c.loop-way.way) in
    subst P (sym c.loop-way.invariant) (filled-free c.args.order.now c.args.set c.args.first c.loop-way.way c.requires.list c.requires.free)

pub loop-way-preserved : goal.loop-way-preserved
loop-way-preserved c =
    c.push_back.ensures ∙
    ap (λ (t : Lists). with_list t c.args.set (items_of t c.args.set ++ (c.args.first + c.loop-way.way) ∷ [])) c.loop-way.invariant ∙
    filled-more c.args.order.now c.args.set c.args.first c.loop-way.way c.requires.list
