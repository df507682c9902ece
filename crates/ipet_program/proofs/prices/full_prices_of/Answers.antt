-- Each place's price stands behind the ones before it.
use Rattle.std.proofs.Common.{◌≡◌, ◌+◌, length, ap, ◌∙◌, arith}
use Rattle.std.proofs.lemmas.List.Elements.{All-push, All-same}
use Rattle.ipet_program.specs.Programs.{full_price}
use Rattle.ipet_program.specs.Tables.{IsFullPrice}
use Rattle.ipet_program.proofs.Numbered.{length-numbered, numbered-push}
use Rattle.ipet_program.proofs.Priced.{full-read}
use Rattle.ipet_program.proofs.prices.full_prices_of.Goals as goal

pub loop-place-preserved : goal.loop-place-preserved
loop-place-preserved c =
    let index = c.loop-place.place-index in
    let places = c.as_slice-place-items in
    record {
      known = numbered-push (full_price c.args.profile.now c.args.image.now c.args.net.now) index
          c.loop-place.prices.items c.push.new.self.items c.full_at.result c.loop-place.invariant.known
          c.in_ok-push.ensures.items
          (full-read c.args.profile.now c.args.image.now c.args.net.now places.result.now index _
          c.full_at.result places.ensures c.loop-place-test.true (c.full_at.ensures.value (index + 1)));
      priced = All-same IsFullPrice _ _ c.in_ok-push.ensures.items
          (All-push IsFullPrice c.loop-place.prices.items c.full_at.result c.loop-place.invariant.priced
          c.full_at.ensures.priced);
    }

pub returns-clause-count : goal.returns-clause-count
returns-clause-count c =
    let all : c.loop-place.place-index ≡ length c.args.net.now.places =
    omega (arith, ap length c.as_slice-place-items.ensures) in
    ap length c.loop-place.invariant.known
    ∙ length-numbered (full_price c.args.profile.now c.args.image.now c.args.net.now) c.loop-place.place-index ∙ all
