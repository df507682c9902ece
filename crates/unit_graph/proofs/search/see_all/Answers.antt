use Rattle.std.proofs.Common.{ℕ, List, get_or, subst, sym, take}
use Rattle.std.specs.Prelude.{Contains}
use Rattle.std.proofs.lemmas.List.{take_more}
use Rattle.unit_graph.specs.Search.{Sees}
use Rattle.unit_graph.proofs.Seen.{Sees-more, Sees-nobody}
use Rattle.unit_graph.proofs.search.see_all.Goals as goal

pub loop-address-init : goal.loop-address-init
loop-address-init c = Sees-nobody c.args.seen.now.keys c.args.waiting.now.items

pub loop-address-preserved : goal.loop-address-preserved
loop-address-preserved c =
    let at = c.loop-address.address-index in
    let one = get_or c.args.addresses.now at 0 in
    let before = take at c.args.addresses.now in
    subst
    (λ (addresses : List ℕ). Sees (Contains addresses) c.args.seen.now.keys c.args.waiting.now.items c.see.new.seen.keys c.see.new.waiting.items)
    (sym (take_more c.args.addresses.now at 0 c.loop-address-test.true))
    (Sees-more before one c.args.seen.now.keys c.args.waiting.now.items
    c.loop-address.seen.keys c.loop-address.waiting.items c.see.new.seen.keys c.see.new.waiting.items
    c.loop-address.invariant c.in_ok-see.ensures)
