-- The price of a number stands at its position.
use Rattle.std.proofs.Common.{◌≡◌, ℕ, ◌-◌, ◌<◌, List, pos, length, get_or, subst, sym, ap, ◌∙◌, arith}
use Rattle.std.proofs.lemmas.List.Elements.{All-get_or}
use Rattle.ipet_program.specs.Programs.IsSmall.{above}
use Rattle.ipet_program.specs.Tables.{IsPrice}
use Rattle.ipet_program.proofs.Numbered.{numbered-get}
use Rattle.ipet_program.proofs.Small.{signed-price, small-price}
use Rattle.ipet_program.proofs.arcs.price_of.Goals as goal

pub returns-then-place-eq0-clause-small : goal.returns-then-place-eq0-clause-small
returns-then-place-eq0-clause-small c = above 0 (omega arith)

pub returns-clause-price : goal.returns-clause-price
returns-clause-price c = λ price outside same.
    let place = c.args.place in
    let prices = c.args.prices.now in
    let within : place - 1 < length prices = omega arith in
    signed-price (get_or prices (place - 1) 0) (All-get_or IsPrice prices (place - 1) 0 within c.requires.priced)
    ∙ ap pos (subst (λ (items : List ℕ). get_or items (place - 1) 0 ≡ price place) (sym same)
    (numbered-get price (length prices) place 0 (omega arith) (omega arith)))

pub returns-clause-small : goal.returns-clause-small
returns-clause-small c =
    let place = c.args.place in
    let prices = c.args.prices.now in
    small-price (get_or prices (place - 1) 0)
    (All-get_or IsPrice prices (place - 1) 0 (omega arith) c.requires.priced)
