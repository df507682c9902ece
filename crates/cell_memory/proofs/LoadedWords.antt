-- What a load of a known word holds, and that it rises.
use Rattle.std.proofs.Common.{◌≡◌, ℕ, ◌<◌, ◌%◌, ◌^◌, ◌&&◌, Bool, true, eqb, List, Option, Some, None, refl, sym, ap, subst, ◌∙◌, arith}
use Rattle.std.proofs.lemmas.Bool.{cond_both, cond-true, and_parts, and_from, eqb-true, eq-eqb, false≢true}
use Rattle.domain_laws.specs.Maps.{value_at, topped_leq, map_leq}
use Rattle.domain_laws.specs.MapValues.{leq_at}
use Rattle.mips_decode.specs.State.{Region}
use Rattle.value_domain.specs.Order.{leq}
use Rattle.value_domain.specs.OrderLemmas.{under, from_under, under_everything}
use Rattle.value_domain.specs.Spans.{Span, IsStrided, Holds, everything, is_single}
use Rattle.value_domain.proofs.Wholes.{holds_everything, strided_everything}
use Rattle.cell_memory.specs.Meaning.{Covers, word_in}
use Rattle.cell_memory.specs.Words.{AreWords, loaded, word_or_everything}
use Rattle.cell_memory.proofs.WordLists.{Word}

abbrev at_one : Span → Bool
at_one address = is_single address && eqb (address.lo % 4) 0

-- ---- what it holds

word_holds : (v : Option Span) (words : List Word) (regions : List Region) (at number : ℕ) → Covers words regions
    → word_in regions at ≡ Some number → number < 2 ^ 32 → value_at at words ≡ v → Holds (word_or_everything v) number
word_holds None words regions at number covers there small e = holds_everything number small
word_holds (Some value) words regions at number covers there small e = covers at value number e there

pub loaded_holds : (address : Span) (words : List Word) (regions : List Region) (at number : ℕ) → Covers words regions → Holds address at
    → word_in regions at ≡ Some number → number < 2 ^ 32 → Holds (loaded address words) number
loaded_holds address words regions at number covers held there small =
    cond_both (at_one address) (word_or_everything (value_at address.lo words)) everything (λ (s : Span). Holds s number)
    (λ e.
    let parts = and_parts (is_single address) (eqb (address.lo % 4) 0) e in
    let one = eqb-true address.lo address.hi parts.0 in
    let same : at ≡ address.lo = omega (arith, one, held.low, held.high) in
    word_holds (value_at address.lo words) words regions address.lo number covers (subst (λ (n : ℕ). word_in regions n ≡ Some number) same there) small refl)
    (λ _. holds_everything number small)

-- ---- that it rises

word_strided : (v : Option Span) (words : List Word) (at : ℕ) → AreWords words → value_at at words ≡ v → IsStrided (word_or_everything v)
word_strided None words at p e = strided_everything
word_strided (Some value) words at p e = let w = p.each at value e in w.strided

pub strided_loaded : (address : Span) (words : List Word) → AreWords words → IsStrided (loaded address words)
strided_loaded address words p =
    cond_both (at_one address) (word_or_everything (value_at address.lo words)) everything IsStrided
    (λ _. word_strided (value_at address.lo words) words address.lo p refl) (λ _. strided_everything)

below_everything : (address : Span) (words : List Word) → AreWords words → leq (loaded address words) everything ≡ true
below_everything address words p =
    let s = strided_loaded address words p in
    from_under (loaded address words) everything (under_everything (loaded address words) s.top)

under_word : (u : Option Span) (value : Span) → topped_leq leq u (Some value) ≡ true → leq (word_or_everything u) value ≡ true
under_word None value e = absurd (false≢true e)
under_word (Some x) value e = e

loaded_at : (address : Span) (words : List Word) (at : ℕ) → address.lo ≡ at → address.hi ≡ at → at % 4 ≡ 0
    → loaded address words ≡ word_or_everything (value_at at words)
loaded_at address words at e f z =
    cond-true (at_one address) (word_or_everything (value_at address.lo words)) everything
    (and_from _ _ (eq-eqb _ _ (e ∙ sym f)) (eq-eqb _ _ (ap (λ (n : ℕ). n % 4) e ∙ z)))
    ∙ ap (λ (n : ℕ). word_or_everything (value_at n words)) e

rises_to : (v : Option Span) (address : Span) (words fewer : List Word) (at : ℕ) → AreWords words → map_leq leq words fewer ≡ true
    → address.lo ≡ at → address.hi ≡ at → at % 4 ≡ 0 → value_at at fewer ≡ v → leq (loaded address words) (word_or_everything v) ≡ true
rises_to None address words fewer at p h e f z g = below_everything address words p
rises_to (Some value) address words fewer at p h e f z g =
    let t = subst (λ (v : Option Span). topped_leq leq (value_at at words) v ≡ true) g (leq_at leq words fewer at h) in
    subst (λ (s : Span). leq s value ≡ true) (sym (loaded_at address words at e f z)) (under_word (value_at at words) value t)

pub loaded_rises : (address wider : Span) (words fewer : List Word) → IsStrided address → AreWords words → IsStrided wider → AreWords fewer
    → leq address wider ≡ true → map_leq leq words fewer ≡ true → leq (loaded address words) (loaded wider fewer) ≡ true
loaded_rises address wider words fewer a p b q h k =
    let u = under address wider h in
    cond_both (at_one wider) (word_or_everything (value_at wider.lo fewer)) everything (λ (s : Span). leq (loaded address words) s ≡ true)
    (λ e.
    let parts = and_parts (is_single wider) (eqb (wider.lo % 4) 0) e in
    let one = eqb-true wider.lo wider.hi parts.0 in
    rises_to (value_at wider.lo fewer) address words fewer wider.lo p k
    (omega (arith, one, u.low, u.high, a.order)) (omega (arith, one, u.low, u.high, a.order)) (eqb-true (wider.lo % 4) 0 parts.1) refl)
    (λ _. below_everything address words p)
