-- The numbers are those of the arcs that leave the place.
use Rattle.std.proofs.Common.{◌≡◌, ℕ, List, All, Some, map, length, get_or, ◌-◌, sym, subst, ◌∙◌}
use Rattle.flow_net.specs.Numbers.{IsNumberOf, item_at}
use Rattle.flow_net.specs.declared.net.NetArc.{NetArc}
use Rattle.flow_net.specs.declared.net.Place.{Place}
use Rattle.flow_net.proofs.Numbers.{item_at-there}
use Rattle.net_tables.specs.Numbers.{numbers_of}
use Rattle.image_run.proofs.Leaving.{behind-none, behind-some, leaving-numbers, list-at}
use Rattle.image_run.proofs.road.Road.next.Goals as goal

pub first_behind-requires-clause-numbers : goal.first_behind-requires-clause-numbers
first_behind-requires-clause-numbers c =
    let same : c.as_slice-numbers.result.now ≡ numbers_of c.args.place 1 (map (λ (a : NetArc). a.from) c.args.net.now.arcs) =
    c.as_slice-numbers.ensures
    ∙ list-at (length c.args.net.now.places) (map (λ (a : NetArc). a.from) c.args.net.now.arcs) c.args.self.now.arcs.items c.args.place
    c.index.result.now c.requires.road.arcs c.requires.place.within c.index.ensures in
    subst (λ (numbers : List ℕ). All (IsNumberOf c.args.net.now.arcs) numbers) (sym same) (leaving-numbers c.args.net.now.arcs c.args.place)

pub returns-clause-some : goal.returns-clause-some
returns-clause-some c =
    let zeros : Place = record { context = 0; address = 0; scope = 0 } in
    let there = subst (λ (places : List Place). item_at c.args.place c.args.net.now.places ≡ Some (get_or places (c.args.place - 1) zeros))
    (sym c.as_slice.ensures) (item_at-there c.args.net.now.places c.args.place zeros c.requires.place) in
    behind-some c.args.net.now c.args.link c.args.place c.args.next (get_or c.as_slice.result.now (c.args.place - 1) zeros) there
    c.first_behind.result c.first_behind.ensures.some

pub returns-clause-none : goal.returns-clause-none
returns-clause-none c =
    let zeros : Place = record { context = 0; address = 0; scope = 0 } in
    let there = subst (λ (places : List Place). item_at c.args.place c.args.net.now.places ≡ Some (get_or places (c.args.place - 1) zeros))
    (sym c.as_slice.ensures) (item_at-there c.args.net.now.places c.args.place zeros c.requires.place) in
    let same : c.as_slice-numbers.result.now ≡ numbers_of c.args.place 1 (map (λ (a : NetArc). a.from) c.args.net.now.arcs) =
    c.as_slice-numbers.ensures
    ∙ list-at (length c.args.net.now.places) (map (λ (a : NetArc). a.from) c.args.net.now.arcs) c.args.self.now.arcs.items c.args.place
    c.index.result.now c.requires.road.arcs c.requires.place.within c.index.ensures in
    behind-none c.args.net.now c.args.link c.args.place c.args.next (get_or c.as_slice.result.now (c.args.place - 1) zeros) there
    c.as_slice-numbers.result.now same c.first_behind.result c.first_behind.ensures.none
