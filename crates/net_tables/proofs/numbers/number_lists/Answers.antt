-- The lists begin empty, and each number goes to the list of its key.
use Rattle.std.proofs.Common.{arith, subst, sym}
use Rattle.net_tables.specs.Numbers.{AreNumbers}
use Rattle.std.specs.Prelude.{[]}
use Rattle.net_tables.proofs.Numbering.{all_numbers, next_number, none_yet}
use Rattle.net_tables.proofs.numbers.number_lists.Goals as goal

pub loop-index-init : goal.loop-index-init
loop-index-init c = subst (AreNumbers c.args.most []) (sym c.in_ok-lists.ensures) (none_yet c.args.most)

pub loop-index-preserved : goal.loop-index-preserved
loop-index-preserved c =
    next_number c.args.most c.args.keys.now c.loop-index.index c.loop-index.lists.items c.add_number.new.lists.items
    (omega arith) (c.requires.keys c.loop-index.index 0 (omega arith)) c.loop-index.invariant c.in_ok-add_number.ensures

pub returns : goal.returns
returns c =
    all_numbers c.args.most c.args.keys.now c.loop-index.index c.loop-index.lists.items (omega arith) c.loop-index.invariant
