use Rattle.std.proofs.Common.{List, ℕ, ◌<◌, All, length, subst, sym}
use Rattle.std.proofs.lemmas.List.Sorted.{All-permutation}
use Rattle.std.proofs.lemmas.Result.{IfOk-weaker}
use Rattle.step_table.proofs.Positions.{Rises}
use Rattle.loop_nest.specs.Listing.{IsListing}
use Rattle.loop_nest.proofs.Collecting.{listing_moved, rises_sorted}
use Rattle.loop_nest.proofs.listing.addresses_in.Goals as goal

pub addresses_at-requires-clause-positions : goal.addresses_at-requires-clause-positions
addresses_at-requires-clause-positions c =
    subst Rises (sym c.deref.ensures.value)
    (rises_sorted c.args.positions.items c.sort_unstable.new.self.items c.requires.apart
    c.sort_unstable.ensures.permutation c.sort_unstable.ensures.sorted)

pub addresses_at-requires-clause-within : goal.addresses_at-requires-clause-within
addresses_at-requires-clause-within c =
    subst (All (λ (x : ℕ). x < length c.args.addresses.now)) (sym c.deref.ensures.value)
    (All-permutation (λ (x : ℕ). x < length c.args.addresses.now) c.args.positions.items c.sort_unstable.new.self.items
    c.sort_unstable.ensures.permutation c.requires.within)

pub returns : goal.returns
returns c =
    IfOk-weaker c.addresses_at.result (IsListing c.args.addresses.now c.deref.result.now)
    (IsListing c.args.addresses.now c.args.positions.items)
    (λ list listing. listing_moved c.args.addresses.now c.args.positions.items c.sort_unstable.new.self.items list
    c.sort_unstable.ensures.permutation
    (subst (λ (ps : List ℕ). IsListing c.args.addresses.now ps list) c.deref.ensures.value listing))
    c.addresses_at.ensures
