use Rattle.std.proofs.Common.{ℕ, List, get_or, subst, sym, take}
use Rattle.std.specs.Prelude.{Contains}
use Rattle.std.proofs.lemmas.List.{take_more}
use Rattle.unit_graph.specs.Search.{Gains}
use Rattle.unit_graph.proofs.Gaining.{Gains-more, Gains-nobody}
use Rattle.unit_graph.proofs.search.add_all.Goals as goal

pub loop-address-init : goal.loop-address-init
loop-address-init c = Gains-nobody c.args.set.now.keys

pub loop-address-preserved : goal.loop-address-preserved
loop-address-preserved c =
    let at = c.loop-address.address-index in
    let one = get_or c.args.addresses.now at 0 in
    let before = take at c.args.addresses.now in
    subst (λ (addresses : List ℕ). Gains (Contains addresses) c.args.set.now.keys c.add.new.set.keys)
    (sym (take_more c.args.addresses.now at 0 c.loop-address-test.true))
    (Gains-more before one c.args.set.now.keys c.loop-address.set.keys c.add.new.set.keys
    c.loop-address.invariant c.in_ok-add.ensures)
