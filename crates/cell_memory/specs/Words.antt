-- Known words of memory: their addresses and values, by rising address.
use Rattle.std.specs.Prelude.{◌≡◌, ℕ, ◌<◌, ◌%◌, ◌^◌, ◌==◌, ◌&&◌, Bool, false, List, Option, Some, None, if◌then◌else◌}
use Rattle.domain_laws.specs.Maps.{IsMap, value_at}
use Rattle.value_domain.specs.Spans.{Span, IsStrided, everything, is_single}
use Rattle.value_domain.specs.Order.{joined, widened}

-- Whether a span is that of every number.
abbrev pub is_everything : Span → Bool
is_everything value = (value.lo == 0) && (value.hi == 4294967295) && (value.step == 1)

-- What a known word is: it stands at a multiple of 4, and not every number may be its value.
pub record IsWord (address : ℕ) (value : Span) : Type 0 where
  pub aligned : address % 4 ≡ 0
  pub low : address < 2 ^ 32
  pub strided : IsStrided value
  pub known : is_everything value ≡ false

-- The words that are known, each once.
abbrev pub AreWords : List (ℕ × Span) → Type 0
AreWords words = IsMap IsWord words

-- A value as that of a known word; none where it may be every number.
abbrev pub known : Span → Option Span
known value = if is_everything value then None else Some value

-- The joins and the widening of known words. A word whose value may then be every number is known no more.
abbrev pub joined_word : Span → Span → Option Span
joined_word x y = known (joined x y)

abbrev pub widened_word : Span → Span → Option Span
widened_word x y = known (widened x y)

-- The value of a word, and every number for a word that isn't known.
abbrev pub word_or_everything : Option Span → Span
word_or_everything None = everything
word_or_everything (Some value) = value

-- What a load gives at the held addresses: what is known at a single address that is a multiple of 4.
abbrev pub loaded : (address : Span) → List (ℕ × Span) → Span
loaded address words =
    if is_single address && (address.lo % 4 == 0) then word_or_everything (value_at address.lo words) else everything
