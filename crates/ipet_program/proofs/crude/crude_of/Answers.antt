-- Each place's price is added, as often as the loops round it let it be visited.
use Rattle.std.proofs.Common.{◌≡◌, ℕ, ◌*◌, length, subst, ◌∙◌, arith}
use Rattle.ipet_program.specs.Scopes.{turns_at}
use Rattle.ipet_program.specs.Sums.{sum_to}
use Rattle.ipet_program.specs.Tables.{in_128}
use Rattle.ipet_program.proofs.CrudeSums.{crude-next}
use Rattle.ipet_program.proofs.Numbered.{numbered-read}
use Rattle.ipet_program.proofs.crude.crude_of.Goals as goal

pub loop-index-preserved : goal.loop-index-preserved
loop-index-preserved c = λ price prices.
    let net = c.args.net.now in
    let index = c.loop-index.index in
    crude-next price (turns_at net) index c.loop-index.crude c.place_turns-visits.result c.from.result
    c.saturating_mul-cycles.result c.saturating_add-crude.result (c.loop-index.invariant price prices)
    c.place_turns-visits.ensures.turns
    (c.from.ensures ∙ numbered-read price (length net.places) c.args.prices.now index 0 prices (omega arith))
    c.saturating_mul-cycles.ensures c.saturating_add-crude.ensures

pub returns : goal.returns
returns c = record {
  crude = λ price prices.
      let net = c.args.net.now in
      let all : c.loop-index.index ≡ length net.places = omega arith in
      subst (λ (n : ℕ). c.loop-index.crude ≡ in_128 (sum_to n (λ place. price place * turns_at net place))) all
      (c.loop-index.invariant price prices);
}
