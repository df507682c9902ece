-- Known words after a store.
use Rattle.std.specs.Prelude.{◌≡◌, ℕ, ◌+◌, ◌-◌, ◌<◌, ◌≤◌, ◌%◌, ◌^◌, ◌==◌, ◌&&◌, not, Bool, min, max, nat_lt, nat_le, List, ◌∷◌, ◌++◌, Contains, filter, if◌then◌else◌}
use Rattle.std.specs.List.{list_any}
use Rattle.cell_memory.specs.declared.stretch.Stretch.{Stretch}
use Rattle.cell_memory.specs.Words.{is_everything}
use Rattle.value_domain.specs.Spans.{Span, Holds, meets, is_single}

-- An access of some bytes from an address on lies in a stretch.
pub record LiesIn (stretch : Stretch) (address size : ℕ) : Type 0 where
  pub from : stretch.first ≤ address
  pub to : address + size ≤ stretch.last + 1

-- A store of some bytes from an address on overlaps the word.
pub record Overlaps (address size word : ℕ) : Type 0 where
  pub before : address < word + 4
  pub behind : word < address + size

-- A store at a held address in one of the stretches may change the word.
pub record MayChange (stretches : List Stretch) (address : Span) (size word : ℕ) : Type 0 where
  pub at : ℕ
  pub held : Holds address at
  pub stretch : Stretch
  pub there : Contains stretches stretch
  pub inside : LiesIn stretch at size
  pub overlap : Overlaps at size word

-- The word of a store of one whole word: at the only address that is held, a multiple of 4.
pub record IsStoredWord (address : Span) (size word : ℕ) : Type 0 where
  pub first : address.lo ≡ word
  pub last : address.hi ≡ word
  pub aligned : word % 4 ≡ 0
  pub whole : size ≡ 4

-- Whether a held address lies in the stretch with all its bytes and overlaps the word: it is then one of the numbers
-- between two others.
abbrev pub reaches : Stretch → (address : Span) → (size word : ℕ) → Bool
reaches stretch address size word =
    meets address (max stretch.first (word + 1 - size)) (min (stretch.last + 2 - size) (word + 4))

abbrev pub may_change : List Stretch → (address : Span) → (size word : ℕ) → Bool
may_change stretches address size word = list_any (λ (stretch : Stretch). reaches stretch address size word) stretches

-- Whether a word lies between two addresses and no store changes it.
abbrev pub stays : List Stretch → (address : Span) → (size low high word : ℕ) → Bool
stays stretches address size low high word =
    nat_le low word && nat_lt word high && not (may_change stretches address size word)

-- The words between two addresses that no store changes.
abbrev pub kept_between : List Stretch → (address : Span) → (size low high : ℕ) → List (ℕ × Span) → List (ℕ × Span)
kept_between stretches address size low high words =
    filter (λ (word : ℕ × Span). stays stretches address size low high word.0) words

-- A store of one aligned word, whose value is then known.
abbrev pub is_word_store : List Stretch → (address : Span) → (size : ℕ) → (value : Span) → Bool
is_word_store stretches address size value =
    is_single address && (address.lo % 4 == 0) && (size == 4) && not (is_everything value)
    && may_change stretches address size address.lo

-- Every word that the store may change is forgotten, and the word of one aligned word store is known.
unfoldable pub stored : List Stretch → (address : Span) → (size : ℕ) → (value : Span) → List (ℕ × Span) →
    List (ℕ × Span)
stored stretches address size value words =
    if is_word_store stretches address size value
    then kept_between stretches address size 0 address.lo words
    ++ (address.lo, value) ∷ kept_between stretches address size (address.lo + 1) (2 ^ 32) words
    else kept_between stretches address size 0 (2 ^ 32) words
