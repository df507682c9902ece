-- Each place is looked at.
use Rattle.std.proofs.Common.{◌≡◌, take, sym, ◌∙◌, arith}
use Rattle.std.proofs.lemmas.List.{take_all}
use Rattle.std.proofs.lemmas.List.Elements.{All-more, All-same}
use Rattle.flow_net.specs.declared.net.Place.{Place}
use Rattle.ipet_program.specs.Programs.{IsUnitAt}
use Rattle.ipet_program.proofs.standing.fits_image.Goals as goal

pub loop-place-preserved : goal.loop-place-preserved
loop-place-preserved c =
    All-more (λ (place : Place). IsUnitAt c.args.image.now place.address) c.as_slice-place-items.result.now
    c.loop-place.place-index (record { context = 0; address = 0; scope = 0 }) c.loop-place-test.true
    c.loop-place.invariant c.if-not-is_unit_at.ensures.stands

pub returns : goal.returns
returns c = record {
  fits =
      let places = c.as_slice-place-items in
      let all : take c.loop-place.place-index places.result.now ≡ places.result.now =
      take_all c.loop-place.place-index places.result.now (omega arith) in
      All-same (λ (place : Place). IsUnitAt c.args.image.now place.address) c.args.net.now.places _
      (sym places.ensures ∙ sym all) c.loop-place.invariant;
}
