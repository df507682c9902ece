-- More held addresses, more held values and fewer known words leave fewer words known.
use Rattle.std.proofs.Common.{◌≡◌, ℕ, Bool, true, false, List, Option, Some, refl, sym, ap, subst, ◌∙◌, arith, inl, inr}
use Rattle.std.proofs.lemmas.Bool.{true≢false}
use Rattle.domain_laws.specs.Maps.{value_at, topped_leq, map_leq}
use Rattle.domain_laws.specs.MapValues.{leq_at, leq_from}
use Rattle.value_domain.specs.Order.{leq}
use Rattle.value_domain.specs.OrderLemmas.{Under, under}
use Rattle.value_domain.specs.Spans.{Span, IsStrided}
use Rattle.value_domain.proofs.HeldNumbers.{under_holds}
use Rattle.cell_memory.specs.declared.stretch.Stretch.{Stretch}
use Rattle.cell_memory.specs.Stores.{MayChange, IsStoredWord, may_change, is_word_store, stored}
use Rattle.cell_memory.specs.WordLaws.{above_everything}
use Rattle.cell_memory.specs.Words.{AreWords, is_everything, known}
use Rattle.cell_memory.proofs.StoredWords.{changes, changed, known_after, stored_word, unchanged, word_cases, word_store, words_stored}
use Rattle.cell_memory.proofs.WordLists.{Word}

-- What a store may change, one at more addresses may change too.
more_change : (stretches : List Stretch) (address wider : Span) (size word : ℕ) → Under address wider → MayChange stretches address size word
    → MayChange stretches wider size word
more_change stretches address wider size word u may = record {
  at = may.at;
  held = under_holds address wider may.at u may.held;
  stretch = may.stretch;
  there = may.there;
  inside = may.inside;
  overlap = may.overlap;
}

-- A span under a single number is that number.
same_address : (address wider : Span) → IsStrided address → IsStrided wider → Under address wider → wider.lo ≡ wider.hi → address ≡ wider
same_address address wider p q u one =
    let lo : address.lo ≡ wider.lo = omega (arith, one, u.low, u.high, p.order) in
    let hi : address.hi ≡ wider.hi = omega (arith, one, u.low, u.high, p.order) in
    fields address wider lo hi (p.one (omega (arith, lo, hi, one)) ∙ sym (q.one one))
  where
    fields : (a b : Span) → a.lo ≡ b.lo → a.hi ≡ b.hi → a.step ≡ b.step → a ≡ b
    fields a b e f g = rw (e, f, g) refl

known_is : (value : Span) → is_everything value ≡ false → known value ≡ Some value
known_is value n = rw n refl

-- The word of one aligned word store is known with a value under the other one.
stored_under : (stretches : List Stretch) (address wider : Span) (size word : ℕ) (value more : Span) (words : List Word)
    → IsStrided address → IsStrided wider → IsStrided more → leq address wider ≡ true → leq value more ≡ true
    → is_word_store stretches wider size more ≡ true → word ≡ wider.lo
    → topped_leq leq (value_at word (stored stretches address size value words)) (Some more) ≡ true
stored_under stretches address wider size word value more words p q m h k t e =
    let s = word_store stretches wider size more t in
    let same = same_address address wider p q (under address wider h) s.one in
    let at = subst (λ (a : Span). IsStoredWord a size word) (sym same) (stored_word stretches wider size word more t e) in
    let reached : may_change stretches wider size word ≡ true = ap (may_change stretches wider size) e ∙ s.reached in
    let may = subst (λ (a : Span). MayChange stretches a size word) (sym same) (changes stretches wider size word q reached) in
    let n : is_everything value ≡ false = unknown (is_everything value) refl s.known in
    subst (λ (v : Option Span). topped_leq leq v (Some more) ≡ true)
    (sym (known_after stretches address size word value words p may at ∙ known_is value n)) k
  where
    unknown : (b : Bool) → is_everything value ≡ b → is_everything more ≡ false → is_everything value ≡ false
    unknown false f g = f
    unknown true f g = absurd (true≢false (sym (above_everything value more m f k) ∙ g))

-- A word that the wider store can't change stands as before.
kept_under : (stretches : List Stretch) (address wider : Span) (size word : ℕ) (value x : Span) (words fewer : List Word)
    → AreWords words → IsStrided address → IsStrided wider → leq address wider ≡ true → map_leq leq words fewer ≡ true
    → may_change stretches wider size word ≡ false → value_at word fewer ≡ Some x
    → topped_leq leq (value_at word (stored stretches address size value words)) (Some x) ≡ true
kept_under stretches address wider size word value x words fewer w p q h k f e =
    let never : MayChange stretches address size word → ⊥ =
    λ may. true≢false (sym (changed stretches wider size word q (more_change stretches address wider size word (under address wider h) may)) ∙ f) in
    let t = subst (λ (v : Option Span). topped_leq leq (value_at word words) v ≡ true) e (leq_at leq words fewer word k) in
    subst (λ (v : Option Span). topped_leq leq v (Some x) ≡ true) (sym (unchanged stretches address size word value words w p never)) t

pub stored_rises : (stretches : List Stretch) (address wider : Span) (size : ℕ) (value more : Span) (words fewer : List Word)
    → AreWords words → AreWords fewer → IsStrided address → IsStrided wider → IsStrided more
    → leq address wider ≡ true → leq value more ≡ true → map_leq leq words fewer ≡ true
    → map_leq leq (stored stretches address size value words) (stored stretches wider size more fewer) ≡ true
stored_rises stretches address wider size value more words fewer w f p q m h k l =
    let after = words_stored stretches wider size more fewer f q m in
    leq_from leq 0 (stored stretches address size value words) (stored stretches wider size more fewer) after.rising
    (λ word x e. elim (word_cases stretches wider size word more x fewer f e) [
      | inl new ↦
          subst (λ (y : Span). topped_leq leq (value_at word (stored stretches address size value words)) (Some y) ≡ true) (sym new.2)
          (stored_under stretches address wider size word value more words p q m h k new.0 new.1)
      | inr old ↦ kept_under stretches address wider size word value x words fewer w p q h l old.0 old.1
    ])
