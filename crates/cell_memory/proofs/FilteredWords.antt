-- Words whose addresses pass a test, and words put before and behind another one.
use Rattle.std.proofs.Common.{◌≡◌, ℕ, ◌<◌, ◌≤◌, ◌+◌, Bool, true, false, cond, List, [], ◌∷◌, ◌++◌, Option, Some, None, refl, sym, ap, ◌∙◌, arith, inl, inr}
use Rattle.std.specs.Prelude.{filter}
use Rattle.std.proofs.lemmas.Bool.{cases_eq}
use Rattle.domain_laws.specs.Maps.{Rises, value_at}
use Rattle.domain_laws.specs.MapValues.{value_past, value_here, rises_from}
use Rattle.value_domain.specs.Spans.{Span}
use Rattle.cell_memory.proofs.WordLists.{Word}

abbrev pub those : (ℕ → Bool) → List Word → List Word
those test words = filter (λ (word : Word). test word.0) words

-- ---- values

none_twice : (b : Bool) (v : Option Span) → cond b v v ≡ v
none_twice true v = refl
none_twice false v = refl

-- The value of an address is that of the words where it passes, and else there is none.
kept_word : (keep : Bool) (test : ℕ → Bool) (word : Word) (words : List Word) (address : ℕ) → test word.0 ≡ keep
    → value_at address (those test words) ≡ cond (test address) (value_at address words) None
    → value_at address (cond keep (word ∷ those test words) (those test words)) ≡ cond (test address) (value_at address (word ∷ words)) None
kept_word true test word words address t rest = elim (cases_eq address word.0) [
  | inl e ↦
      value_here address word (those test words) e
      ∙ sym (ap (λ (v : Option Span). cond (test address) v None) (value_here address word words e)
      ∙ ap (λ (b : Bool). cond b (Some word.1) None) (ap test e ∙ t))
  | inr ne ↦
      value_past address word (those test words) ne ∙ rest
      ∙ sym (ap (λ (v : Option Span). cond (test address) v None) (value_past address word words ne))
]
kept_word false test word words address t rest = elim (cases_eq address word.0) [
  | inl e ↦
      let f : test address ≡ false = ap test e ∙ t in
      rest ∙ ap (λ (b : Bool). cond b (value_at address words) None) f
      ∙ sym (ap (λ (b : Bool). cond b (value_at address (word ∷ words)) None) f)
  | inr ne ↦ rest ∙ sym (ap (λ (v : Option Span). cond (test address) v None) (value_past address word words ne))
]

pub value_those : (test : ℕ → Bool) (words : List Word) (address : ℕ)
    → value_at address (those test words) ≡ cond (test address) (value_at address words) None
value_those test [] address = sym (none_twice (test address) None)
value_those test (word ∷ words) address =
    kept_word (test word.0) test word words address refl (value_those test words address)

pub passing : (test : ℕ → Bool) (words : List Word) (address : ℕ) → test address ≡ true → value_at address (those test words) ≡ value_at address words
passing test words address t = value_those test words address ∙ ap (λ (b : Bool). cond b (value_at address words) None) t

pub failing : (test : ℕ → Bool) (words : List Word) (address : ℕ) → test address ≡ false → value_at address (those test words) ≡ None
failing test words address t = value_those test words address ∙ ap (λ (b : Bool). cond b (value_at address words) None) t

-- Words behind others count where those have no value.
pub value_behind : (front back : List Word) (address : ℕ) → value_at address front ≡ None → value_at address (front ++ back) ≡ value_at address back
value_behind [] back address none = refl
value_behind (word ∷ front) back address none = elim (cases_eq address word.0) [
  | inl e ↦ absurd (some_none (sym (value_here address word front e) ∙ none))
  | inr ne ↦
      value_past address word (front ++ back) ne
      ∙ value_behind front back address (sym (value_past address word front ne) ∙ none)
]
  where
    some_none : {x : Span} → Some x ≡ None → ⊥
    some_none e = cc

pub value_before : (front back : List Word) (address : ℕ) (value : Span) → value_at address front ≡ Some value → value_at address (front ++ back) ≡ Some value
value_before [] back address value some = absurd (none_some some)
  where
    none_some : {x : Span} → None ≡ Some x → ⊥
    none_some e = cc
value_before (word ∷ front) back address value some = elim (cases_eq address word.0) [
  | inl e ↦ value_here address word (front ++ back) e ∙ sym (value_here address word front e) ∙ some
  | inr ne ↦
      value_past address word (front ++ back) ne
      ∙ value_before front back address value (sym (value_past address word front ne) ∙ some)
]

-- ---- order

kept_rises : (keep : Bool) (low : ℕ) (word : Word) (those1 : List Word) → low ≤ word.0 → Rises (word.0 + 1) those1
    → Rises low (cond keep (word ∷ those1) those1)
kept_rises true low word those1 le r = (le, r)
kept_rises false low word those1 le r = rises_from low (word.0 + 1) those1 (omega (arith, le)) r

pub rises_those : (test : ℕ → Bool) (low : ℕ) (words : List Word) → Rises low words → Rises low (those test words)
rises_those test low [] r = tt
rises_those test low (word ∷ words) r =
    kept_rises (test word.0) low word (those test words) r.0 (rises_those test (word.0 + 1) words r.1)

-- Words that pass rise from a number that no passing address lies below.
above_rises : (keep : Bool) (from : ℕ) (word : Word) (those1 : List Word) → (keep ≡ true → from ≤ word.0) → Rises (word.0 + 1) those1 → Rises from those1
    → Rises from (cond keep (word ∷ those1) those1)
above_rises true from word those1 le r s = (le refl, r)
above_rises false from word those1 le r s = s

pub rises_above : (test : ℕ → Bool) (from low : ℕ) (words : List Word) → Rises low words → ((address : ℕ) → test address ≡ true → from ≤ address)
    → Rises from (those test words)
rises_above test from low [] r above = tt
rises_above test from low (word ∷ words) r above =
    above_rises (test word.0) from word (those test words) (above word.0) (rises_those test (word.0 + 1) words r.1)
    (rises_above test from (word.0 + 1) words r.1 above)

-- Words that pass lie before the word that follows them.
front_rises : (keep : Bool) (low at : ℕ) (word : Word) (those1 rest : List Word) → low ≤ word.0 → (keep ≡ true → word.0 < at)
    → (word.0 + 1 ≤ at → Rises (word.0 + 1) (those1 ++ rest)) → Rises low (those1 ++ rest)
    → Rises low (cond keep (word ∷ those1) those1 ++ rest)
front_rises true low at word those1 rest le before r s = (le, r (omega (arith, before refl)))
front_rises false low at word those1 rest le before r s = s

pub rises_before : (test : ℕ → Bool) (low at : ℕ) (value : Span) (words back : List Word) → Rises low words → low ≤ at
    → ((address : ℕ) → test address ≡ true → address < at) → Rises (at + 1) back
    → Rises low (those test words ++ (at, value) ∷ back)
rises_before test low at value [] back r le before s = (le, s)
rises_before test low at value (word ∷ words) back r le before s =
    front_rises (test word.0) low at word (those test words) ((at, value) ∷ back) r.0 (before word.0)
    (λ more. rises_before test (word.0 + 1) at value words back r.1 more before s)
    (rises_before test low at value words back (rises_from low (word.0 + 1) words (omega (arith, r.0)) r.1) le before s)
