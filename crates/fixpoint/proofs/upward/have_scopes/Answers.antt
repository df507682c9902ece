-- Each of the places is looked at.
use Rattle.std.proofs.Common.{◌≡◌, ◌≤◌, take, sym, arith}
use Rattle.std.proofs.lemmas.List.{take_all}
use Rattle.std.proofs.lemmas.List.Elements.{All-more, All-same}
use Rattle.flow_net.specs.declared.net.Place.{Place}
use Rattle.fixpoint.proofs.upward.have_scopes.Goals as goal

pub loop-place-preserved : goal.loop-place-preserved
loop-place-preserved c =
    All-more (λ (place : Place). place.scope ≤ c.args.count) c.args.places.now c.loop-place.place-index
    (record { context = 0; address = 0; scope = 0 })
    c.loop-place-test.true c.loop-place.invariant (omega arith)

pub returns : goal.returns
returns c = record {
  scopes =
      let all : take c.loop-place.place-index c.args.places.now ≡ c.args.places.now =
      take_all c.loop-place.place-index c.args.places.now (omega arith) in
      All-same (λ (place : Place). place.scope ≤ c.args.count) c.args.places.now _ (sym all) c.loop-place.invariant;
}
