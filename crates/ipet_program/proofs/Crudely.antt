-- What a crude bound below the limit says of the turns of places.
use Rattle.std.proofs.Common.{◌≡◌, ℕ, zero, suc, ◌*◌, ◌-◌, ◌<◌, ◌≤◌, List, length, get_or, All, sym, ◌∙◌, ap, subst, arith}
use Rattle.std.proofs.lemmas.List.Elements.{All-get_or}
use Rattle.flow_net.specs.Numbers.{IsNumberOf}
use Rattle.flow_net.specs.declared.net.Net.{Net}
use Rattle.ipet_program.specs.Programs.{crude_limit, crude_of}
use Rattle.ipet_program.specs.Scopes.{turns_at}
use Rattle.ipet_program.specs.Sums.{numbered}
use Rattle.ipet_program.specs.Tables.{AreLow, IsCrude, in_128}
use Rattle.ipet_program.proofs.Numbered.{length-numbered, numbered-get}
use Rattle.ipet_program.proofs.Products.{sum_to-least}

times-least : (p t : ℕ) → 1 ≤ p → t ≤ p * t
times-least zero t low = absurd (omega arith)
times-least (suc k) t low = omega arith

-- Each price of the table is that of its number.
pub priced-each : (price : ℕ → ℕ) (n : ℕ) (prices : List ℕ) → prices ≡ numbered price n → All (λ (p : ℕ). 1 ≤ p) prices →
    (place : ℕ) → 1 ≤ place → place ≤ n → 1 ≤ price place
priced-each price n prices same all place low high =
    let read : get_or prices (place - 1) 0 ≡ price place =
    subst (λ (items : List ℕ). get_or items (place - 1) 0 ≡ price place) (sym same)
    (numbered-get price n place 0 low high) in
    let count : length prices ≡ n = ap length same ∙ length-numbered price n in
    omega (arith, read, All-get_or (λ (p : ℕ). 1 ≤ p) prices (place - 1) 0 (omega (arith, count)) all)

pub are-low : (net : Net) (price : ℕ → ℕ) → ((place : ℕ) → IsNumberOf net.places place → 1 ≤ price place) →
    crude_of net price ≤ crude_limit → AreLow net
are-low net price costly low place number =
    omega (
      arith,
      times-least (price place) (turns_at net place) (costly place number),
      sum_to-least (length net.places) (λ p. price p * turns_at net p) place number.from_one number.within,
      low,
    )

pub not-low : (crude all : ℕ) → crude ≡ in_128 all → crude_limit < crude → crude_limit < all
not-low crude all same above = omega (arith, same, above)

pub is-low : (crude all : ℕ) → crude ≡ in_128 all → crude ≤ crude_limit → all ≤ crude_limit
is-low crude all same below = omega (arith, same, below)

-- A table of prices, a crude bound that is kept with 128 bits and isn't above the limit: the turns of each place
-- are low.
pub low-by : (net : Net) (price : ℕ → ℕ) (prices read : List ℕ) (crude : ℕ) → prices ≡ numbered price (length net.places) →
    All (λ (p : ℕ). 1 ≤ p) prices → read ≡ prices → IsCrude net read crude → crude ≤ crude_limit → AreLow net
low-by net price prices read crude known priced same is low =
    are-low net price
    (λ place number. priced-each price (length net.places) prices known priced place number.from_one number.within)
    (is-low crude (crude_of net price) (is price (same ∙ known)) low)
