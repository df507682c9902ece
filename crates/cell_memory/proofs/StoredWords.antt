-- The words after a store, address by address.
use Rattle.std.proofs.Common.{◌≡◌, ℕ, ◌<◌, ◌≤◌, ◌+◌, ◌-◌, ◌%◌, ◌^◌, ◌&&◌, true, false, eqb, leb, ltb, min, max, List, ◌∷◌, ◌++◌, Option, Some, None, refl, sym, ap, subst, ◌∙◌, arith, inl, inr, ◌⊎◌}
use Rattle.std.proofs.lemmas.List.Folds.{Any-from_list_any, list_any-from_Any}
use Rattle.std.proofs.lemmas.Bool.{cases_eq, cases_lt, cases_order, cases_Bool, cond-true, cond-false, and_parts, and_from, and_left, and_right, le-leb, lt-leb, leb-true, ltb-true, lt-ltb, le-ltb, eqb-true, not-true, not_from_true, not_from_false, true≢false, false_from_ne_true, eq-eqb}
use Rattle.domain_laws.specs.Maps.{Rises, value_at}
use Rattle.domain_laws.specs.MapValues.{value_past, value_here, value_low}
use Rattle.value_domain.specs.Spans.{Span, IsStrided, is_single}
use Rattle.value_domain.proofs.HeldNumbers.{meets_number, number_meets}
use Rattle.cell_memory.specs.declared.stretch.Stretch.{Stretch}
use Rattle.cell_memory.specs.Stores.{IsStoredWord, MayChange, reaches, may_change, stays, kept_between, is_word_store, stored}
use Rattle.cell_memory.specs.Words.{AreWords, is_everything, known}
use Rattle.cell_memory.proofs.WordLists.{Word}
use Rattle.cell_memory.proofs.FilteredWords.{passing, failing, value_behind, value_before, rises_those, rises_above, rises_before}

-- ---- which words may change

pub changes : (stretches : List Stretch) (address : Span) (size word : ℕ) → IsStrided address → may_change stretches address size word ≡ true
    → MayChange stretches address size word
changes stretches address size word p e =
    let a = Any-from_list_any (λ (s : Stretch). reaches s address size word) stretches e in
    let stretch = a.1 in
    let m = meets_number address (max stretch.first (word + 1 - size)) (min (stretch.last + 2 - size) (word + 4)) p a.4 in
    record {
      at = m.0;
      held = m.1;
      stretch = stretch;
      there = (a.0, a.2, a.3);
      inside = record { from = omega (arith, m.2); to = omega (arith, m.3) };
      overlap = record { before = omega (arith, m.3); behind = omega (arith, m.2) };
    }

pub changed : (stretches : List Stretch) (address : Span) (size word : ℕ) → IsStrided address → MayChange stretches address size word
    → may_change stretches address size word ≡ true
changed stretches address size word p c =
    let low : max c.stretch.first (word + 1 - size) ≤ c.at = omega (arith, c.inside.from, c.overlap.behind) in
    let high : c.at < min (c.stretch.last + 2 - size) (word + 4) = omega (arith, c.inside.to, c.overlap.before) in
    list_any-from_Any (λ (s : Stretch). reaches s address size word) stretches
    (c.there.0, c.stretch, c.there.1, c.there.2, number_meets address (max c.stretch.first (word + 1 - size)) (min (c.stretch.last + 2 - size) (word + 4)) p (c.at, c.held, low, high))

-- ---- which words stay

stays_if : (stretches : List Stretch) (address : Span) (size low high word : ℕ) → low ≤ word → word < high
    → may_change stretches address size word ≡ false → stays stretches address size low high word ≡ true
stays_if stretches address size low high word le lt e =
    and_from _ _ (and_from _ _ (le-leb low word le) (lt-ltb word high lt)) (not_from_false _ e)

below_low : (stretches : List Stretch) (address : Span) (size low high word : ℕ) → word < low → stays stretches address size low high word ≡ false
below_low stretches address size low high word lt = and_left _ _ (and_left _ _ (lt-leb low word lt))

from_high : (stretches : List Stretch) (address : Span) (size low high word : ℕ) → high ≤ word → stays stretches address size low high word ≡ false
from_high stretches address size low high word le = and_left _ _ (and_right (leb low word) _ (le-ltb word high le))

if_changed : (stretches : List Stretch) (address : Span) (size low high word : ℕ) → may_change stretches address size word ≡ true
    → stays stretches address size low high word ≡ false
if_changed stretches address size low high word e = and_right (leb low word && ltb word high) _ (not_from_true _ e)

stays_low : (stretches : List Stretch) (address : Span) (size low high word : ℕ) → stays stretches address size low high word ≡ true → low ≤ word
stays_low stretches address size low high word e = leb-true low word (and_parts _ _ (and_parts _ _ e).0).0

stays_high : (stretches : List Stretch) (address : Span) (size low high word : ℕ) → stays stretches address size low high word ≡ true → word < high
stays_high stretches address size low high word e = ltb-true word high (and_parts _ _ (and_parts _ _ e).0).1

-- ---- the two forms of the words after a store

abbrev around : List Stretch → (address : Span) → (size : ℕ) → Span → List Word → List Word
around stretches address size value words =
    kept_between stretches address size 0 address.lo words
    ++ (address.lo, value) ∷ kept_between stretches address size (address.lo + 1) (2 ^ 32) words

abbrev left_over : List Stretch → (address : Span) → (size : ℕ) → List Word → List Word
left_over stretches address size words = kept_between stretches address size 0 (2 ^ 32) words

word_stored : (stretches : List Stretch) (address : Span) (size : ℕ) (value : Span) (words : List Word)
    → is_word_store stretches address size value ≡ true → stored stretches address size value words ≡ around stretches address size value words
unfolding stored
word_stored stretches address size value words e =
    cond-true (is_word_store stretches address size value) (around stretches address size value words) (left_over stretches address size words) e

no_word_stored : (stretches : List Stretch) (address : Span) (size : ℕ) (value : Span) (words : List Word)
    → is_word_store stretches address size value ≡ false → stored stretches address size value words ≡ left_over stretches address size words
unfolding stored
no_word_stored stretches address size value words e =
    cond-false (is_word_store stretches address size value) (around stretches address size value words) (left_over stretches address size words) e

-- What the test of a word store tells.
pub record IsWordStore (stretches : List Stretch) (address : Span) (size : ℕ) (value : Span) : Type 0 where
  pub one : address.lo ≡ address.hi
  pub aligned : address.lo % 4 ≡ 0
  pub whole : size ≡ 4
  pub known : is_everything value ≡ false
  pub reached : may_change stretches address size address.lo ≡ true

pub word_store : (stretches : List Stretch) (address : Span) (size : ℕ) (value : Span) → is_word_store stretches address size value ≡ true
    → IsWordStore stretches address size value
word_store stretches address size value e =
    let p = and_parts _ _ e in
    let q = and_parts _ _ p.0 in
    let r = and_parts _ _ q.0 in
    let s = and_parts _ _ r.0 in
    record {
      one = eqb-true _ _ s.0;
      aligned = eqb-true _ _ s.1;
      whole = eqb-true _ _ r.1;
      known = not-true _ q.1;
      reached = p.1;
    }

-- An address from 2 ^ 32 on has no word.
no_high : (words : List Word) (word : ℕ) → AreWords words → 2 ^ 32 ≤ word → value_at word words ≡ None
no_high words word p le = by_value (value_at word words) refl
  where
    by_value : (v : Option Span) → value_at word words ≡ v → v ≡ None
    by_value None e = refl
    by_value (Some x) e = let w = p.each word x e in absurd (omega (arith, w.low, le))

-- ---- a word that no store changes

kept_left : (stretches : List Stretch) (address : Span) (size word : ℕ) (words : List Word) → AreWords words
    → may_change stretches address size word ≡ false → value_at word (left_over stretches address size words) ≡ value_at word words
kept_left stretches address size word words p e = elim (cases_lt word (2 ^ 32)) [
  | inl lt ↦ passing (stays stretches address size 0 (2 ^ 32)) words word (stays_if stretches address size 0 (2 ^ 32) word (omega arith) lt e)
  | inr ge ↦
      failing (stays stretches address size 0 (2 ^ 32)) words word (from_high stretches address size 0 (2 ^ 32) word ge)
      ∙ sym (no_high words word p ge)
]

back_rises : (stretches : List Stretch) (address : Span) (size : ℕ) (words : List Word) → AreWords words
    → Rises (address.lo + 1) (kept_between stretches address size (address.lo + 1) (2 ^ 32) words)
back_rises stretches address size words p =
    rises_above (stays stretches address size (address.lo + 1) (2 ^ 32)) (address.lo + 1) 0 words p.rising
    (λ word e. stays_low stretches address size (address.lo + 1) (2 ^ 32) word e)

kept_around : (stretches : List Stretch) (address : Span) (size word : ℕ) (value : Span) (words : List Word) → AreWords words
    → may_change stretches address size address.lo ≡ true
    → may_change stretches address size word ≡ false → value_at word (around stretches address size value words) ≡ value_at word words
kept_around stretches address size word value words p here e =
    let front = kept_between stretches address size 0 address.lo words in
    let back = kept_between stretches address size (address.lo + 1) (2 ^ 32) words in
    elim (cases_order word address.lo) [
      | inl same ↦ absurd (true≢false (sym here ∙ ap (may_change stretches address size) (sym same) ∙ e))
      | inr other ↦ elim other [
        | inl lt ↦
            let stay = passing (stays stretches address size 0 address.lo) words word (stays_if stretches address size 0 address.lo word (omega arith) lt e) in
            by_value (value_at word words) refl front back stay lt
        | inr gt ↦
            value_behind front ((address.lo, value) ∷ back) word (failing (stays stretches address size 0 address.lo) words word (from_high stretches address size 0 address.lo word (omega (arith, gt))))
            ∙ value_past word (address.lo, value) back (λ f. omega (arith, f, gt))
            ∙ behind gt
      ]
    ]
  where
    by_value : (v : Option Span) → value_at word words ≡ v → (front back : List Word) → value_at word front ≡ value_at word words → word < address.lo
        → value_at word (front ++ (address.lo, value) ∷ kept_between stretches address size (address.lo + 1) (2 ^ 32) words) ≡ value_at word words
    by_value (Some x) f front back stay lt = value_before front _ word x (stay ∙ f) ∙ sym f
    by_value None f front back stay lt =
        value_behind front _ word (stay ∙ f)
        ∙ value_past word (address.lo, value) (kept_between stretches address size (address.lo + 1) (2 ^ 32) words) (λ g. omega (arith, g, lt))
        ∙ value_low (address.lo + 1) (kept_between stretches address size (address.lo + 1) (2 ^ 32) words) word (back_rises stretches address size words p) (omega (arith, lt))
        ∙ sym f

    behind : address.lo < word → value_at word (kept_between stretches address size (address.lo + 1) (2 ^ 32) words) ≡ value_at word words
    behind gt = elim (cases_lt word (2 ^ 32)) [
      | inl lt ↦ passing (stays stretches address size (address.lo + 1) (2 ^ 32)) words word (stays_if stretches address size (address.lo + 1) (2 ^ 32) word (omega (arith, gt)) lt e)
      | inr ge ↦
          failing (stays stretches address size (address.lo + 1) (2 ^ 32)) words word (from_high stretches address size (address.lo + 1) (2 ^ 32) word ge)
          ∙ sym (no_high words word p ge)
    ]

pub word_kept : (stretches : List Stretch) (address : Span) (size word : ℕ) (value : Span) (words : List Word) → AreWords words
    → may_change stretches address size word ≡ false → value_at word (stored stretches address size value words) ≡ value_at word words
word_kept stretches address size word value words p e = elim (cases_Bool (is_word_store stretches address size value)) [
  | inl t ↦
      let s = word_store stretches address size value t in
      ap (value_at word) (word_stored stretches address size value words t) ∙ kept_around stretches address size word value words p s.reached e
  | inr f ↦ ap (value_at word) (no_word_stored stretches address size value words f) ∙ kept_left stretches address size word words p e
]

-- ---- a word that may change

pub word_known : (stretches : List Stretch) (address : Span) (size : ℕ) (value : Span) (words : List Word)
    → is_word_store stretches address size value ≡ true → value_at address.lo (stored stretches address size value words) ≡ Some value
word_known stretches address size value words t =
    let front = kept_between stretches address size 0 address.lo words in
    let back = kept_between stretches address size (address.lo + 1) (2 ^ 32) words in
    ap (value_at address.lo) (word_stored stretches address size value words t)
    ∙ value_behind front ((address.lo, value) ∷ back) address.lo (failing (stays stretches address size 0 address.lo) words address.lo (from_high stretches address size 0 address.lo address.lo (omega arith)))
    ∙ value_here address.lo (address.lo, value) back refl

forgotten_around : (stretches : List Stretch) (address : Span) (size word : ℕ) (value : Span) (words : List Word)
    → may_change stretches address size word ≡ true → (word ≡ address.lo → ⊥) → value_at word (around stretches address size value words) ≡ None
forgotten_around stretches address size word value words e ne =
    let front = kept_between stretches address size 0 address.lo words in
    let back = kept_between stretches address size (address.lo + 1) (2 ^ 32) words in
    value_behind front ((address.lo, value) ∷ back) word (failing (stays stretches address size 0 address.lo) words word (if_changed stretches address size 0 address.lo word e))
    ∙ value_past word (address.lo, value) back ne
    ∙ failing (stays stretches address size (address.lo + 1) (2 ^ 32)) words word (if_changed stretches address size (address.lo + 1) (2 ^ 32) word e)

pub word_forgotten : (stretches : List Stretch) (address : Span) (size word : ℕ) (value : Span) (words : List Word)
    → may_change stretches address size word ≡ true → (is_word_store stretches address size value ≡ true → word ≡ address.lo → ⊥)
    → value_at word (stored stretches address size value words) ≡ None
word_forgotten stretches address size word value words e other = elim (cases_Bool (is_word_store stretches address size value)) [
  | inl t ↦ ap (value_at word) (word_stored stretches address size value words t) ∙ forgotten_around stretches address size word value words e (other t)
  | inr f ↦
      ap (value_at word) (no_word_stored stretches address size value words f)
      ∙ failing (stays stretches address size 0 (2 ^ 32)) words word (if_changed stretches address size 0 (2 ^ 32) word e)
]

-- ---- the words after a store are words

stored_rises : (stretches : List Stretch) (address : Span) (size : ℕ) (value : Span) (words : List Word) → AreWords words
    → Rises 0 (stored stretches address size value words)
stored_rises stretches address size value words p = elim (cases_Bool (is_word_store stretches address size value)) [
  | inl t ↦ subst (Rises 0) (sym (word_stored stretches address size value words t))
      (rises_before (stays stretches address size 0 address.lo) 0 address.lo value words _ p.rising (omega arith)
      (λ word e. stays_high stretches address size 0 address.lo word e) (back_rises stretches address size words p))
  | inr f ↦ subst (Rises 0) (sym (no_word_stored stretches address size value words f))
      (rises_those (stays stretches address size 0 (2 ^ 32)) 0 words p.rising)
]

-- Each word after a store is the one that was stored, or was there before and can't change.
pub word_cases : (stretches : List Stretch) (address : Span) (size word : ℕ) (value x : Span) (words : List Word) → AreWords words
    → value_at word (stored stretches address size value words) ≡ Some x
    → ((is_word_store stretches address size value ≡ true) × (word ≡ address.lo) × (x ≡ value))
    ⊎ ((may_change stretches address size word ≡ false) × (value_at word words ≡ Some x))
word_cases stretches address size word value x words p e = elim (cases_Bool (may_change stretches address size word)) [
  | inr f ↦ inr (f, sym (word_kept stretches address size word value words p f) ∙ e)
  | inl t ↦ elim (cases_Bool (is_word_store stretches address size value)) [
    | inl s ↦ elim (cases_eq word address.lo) [
      | inl same ↦ inl (s, same, same_some (sym e ∙ ap (λ (w : ℕ). value_at w (stored stretches address size value words)) same ∙ word_known stretches address size value words s))
      | inr ne ↦ absurd (some_none (sym e ∙ word_forgotten stretches address size word value words t (λ _. ne)))
    ]
    | inr n ↦ absurd (some_none (sym e ∙ word_forgotten stretches address size word value words t (λ s _. true≢false (sym s ∙ n))))
  ]
]
  where
    some_none : Some x ≡ None → ⊥
    some_none e = cc

    same_some : Some x ≡ Some value → x ≡ value
    same_some e = cc

pub words_stored : (stretches : List Stretch) (address : Span) (size : ℕ) (value : Span) (words : List Word) → AreWords words → IsStrided address → IsStrided value
    → AreWords (stored stretches address size value words)
words_stored stretches address size value words p a v = record {
  rising = stored_rises stretches address size value words p;
  each = λ word x e. elim (word_cases stretches address size word value x words p e) [
    | inl new ↦
        let s = word_store stretches address size value new.0 in
        record {
          aligned = ap (λ (n : ℕ). n % 4) new.1 ∙ s.aligned;
          low = omega (arith, new.1, a.top, a.order);
          strided = subst IsStrided (sym new.2) v;
          known = ap is_everything new.2 ∙ s.known;
        }
    | inr old ↦ p.each word x old.1
  ];
}

-- ---- by what a store may change

pub unchanged : (stretches : List Stretch) (address : Span) (size word : ℕ) (value : Span) (words : List Word) → AreWords words → IsStrided address
    → (MayChange stretches address size word → ⊥) → value_at word (stored stretches address size value words) ≡ value_at word words
unchanged stretches address size word value words p a never =
    word_kept stretches address size word value words p
    (false_from_ne_true (may_change stretches address size word) (λ e. never (changes stretches address size word a e)))

pub stored_word : (stretches : List Stretch) (address : Span) (size word : ℕ) (value : Span) → is_word_store stretches address size value ≡ true
    → word ≡ address.lo → IsStoredWord address size word
stored_word stretches address size word value t e =
    let s = word_store stretches address size value t in
    record { first = sym e; last = sym s.one ∙ sym e; aligned = ap (λ (n : ℕ). n % 4) e ∙ s.aligned; whole = s.whole }

pub forgotten : (stretches : List Stretch) (address : Span) (size word : ℕ) (value : Span) (words : List Word) → IsStrided address
    → MayChange stretches address size word → (IsStoredWord address size word → ⊥) → value_at word (stored stretches address size value words) ≡ None
forgotten stretches address size word value words a may never =
    word_forgotten stretches address size word value words (changed stretches address size word a may)
    (λ t e. never (stored_word stretches address size word value t e))

is_stored : (stretches : List Stretch) (address : Span) (size word : ℕ) (value : Span) → IsStrided address → MayChange stretches address size word
    → IsStoredWord address size word → is_everything value ≡ false → is_word_store stretches address size value ≡ true
is_stored stretches address size word value a may at n =
    let one : is_single address ≡ true = eq-eqb address.lo address.hi (at.first ∙ sym at.last) in
    let aligned : eqb (address.lo % 4) 0 ≡ true = eq-eqb (address.lo % 4) 0 (ap (λ (n : ℕ). n % 4) at.first ∙ at.aligned) in
    let whole : eqb size 4 ≡ true = eq-eqb size 4 at.whole in
    let reached : may_change stretches address size address.lo ≡ true =
    ap (may_change stretches address size) at.first ∙ changed stretches address size word a may in
    and_from _ _ (and_from _ _ (and_from _ _ (and_from _ _ one aligned) whole) (not_from_false (is_everything value) n)) reached

pub known_after : (stretches : List Stretch) (address : Span) (size word : ℕ) (value : Span) (words : List Word) → IsStrided address
    → MayChange stretches address size word → IsStoredWord address size word → value_at word (stored stretches address size value words) ≡ known value
known_after stretches address size word value words a may at = elim (cases_Bool (is_everything value)) [
  | inl e ↦
      word_forgotten stretches address size word value words (changed stretches address size word a may)
      (λ t _. let s = word_store stretches address size value t in true≢false (sym e ∙ s.known))
      ∙ sym (cond-true (is_everything value) None (Some value) e)
  | inr n ↦
      ap (λ (w : ℕ). value_at w (stored stretches address size value words)) (sym at.first)
      ∙ word_known stretches address size value words (is_stored stretches address size word value a may at n)
      ∙ sym (cond-false (is_everything value) None (Some value) n)
]
