-- Known words still tell of memory after a store.
use Rattle.std.proofs.Common.{◌≡◌, ℕ, suc, ◌<◌, ◌≤◌, ◌+◌, ◌^◌, Bool, true, false, cond, List, [], ◌∷◌, Some, length, refl, sym, ap, subst, ◌∙◌, arith, inl, inr, ◌⊎◌}
use Rattle.std.specs.Prelude.{Contains, find}
use Rattle.std.proofs.lemmas.Bool.{cases_lt, true≢false}
use Rattle.mips_decode.specs.Effect.{region_of, regions_with}
use Rattle.mips_decode.specs.Memory.{IsSize}
use Rattle.mips_decode.specs.State.{Region, covers}
use Rattle.value_domain.specs.Spans.{Span, IsStrided, Holds}
use Rattle.cell_memory.specs.declared.stretch.Stretch.{Stretch}
use Rattle.cell_memory.specs.Meaning.{Covers, AreWritable, IsStore, store_at, word_in}
use Rattle.cell_memory.specs.Stores.{Overlaps, MayChange, stored}
use Rattle.cell_memory.specs.Words.{AreWords}
use Rattle.cell_memory.proofs.MemoryWords.{covers_start, covers_end, word_stays, word_there}
use Rattle.cell_memory.proofs.StoredWords.{changed, word_cases, word_store}
use Rattle.cell_memory.proofs.WordLists.{Word}

-- ---- the region of a store

found_in : (test : Region → Bool) (here : Bool) (region found : Region) (regions : List Region) → test region ≡ here
    → cond here (Some region) (find test regions) ≡ Some found
    → (find test regions ≡ Some found → Contains regions found × (test found ≡ true))
    → Contains (region ∷ regions) found × (test found ≡ true)
found_in test true region found regions t e rest =
    let same : region ≡ found = cc in
    ((0, omega arith, same), ap test (sym same) ∙ t)
found_in test false region found regions t e rest =
    let r = rest e in
    let inside : suc r.0.0 < length (region ∷ regions) = omega (arith, r.0.1) in
    ((suc r.0.0, inside, r.0.2), r.1)

found : (test : Region → Bool) (regions : List Region) (region : Region) → find test regions ≡ Some region
    → Contains regions region × (test region ≡ true)
found test [] region e = absurd cc
found test (first ∷ regions) region e = found_in test (test first) first region regions refl e (λ f. found test regions region f)

some_byte : (size : ℕ) → IsSize size → 0 < size
some_byte size (inl e) = omega (arith, e)
some_byte size (inr (inl e)) = omega (arith, e)
some_byte size (inr (inr e)) = omega (arith, e)

-- A store that overlaps a word may change it.
may : (stretches : List Stretch) (address : Span) (size word : ℕ) (value : Span) (regions : List Region) (at number : ℕ)
    → IsSize size → AreWritable stretches regions → IsStore regions address size value at number → Overlaps at size word → MayChange stretches address size word
may stretches address size word value regions at number p writable store overlap =
    let there = found (covers at size) regions store.region store.there in
    let from = covers_start at size store.region there.1 in
    let to = covers_end at size store.region there.1 in
    let w = writable store.region there.0 store.writable (omega (arith, from, to, some_byte size p)) in
    record {
      at = at;
      held = store.held;
      stretch = w.0;
      there = w.1;
      inside = record { from = omega (arith, from, w.2.from); to = omega (arith, to, w.2.to) };
      overlap = overlap;
    }

-- A word that no store changes lies apart from the store.
apart : (at size word : ℕ) → (Overlaps at size word → ⊥) → (word + 4 ≤ at) ⊎ (at + size ≤ word)
apart at size word never = elim (cases_lt at (word + 4)) [
  | inr le ↦ inl le
  | inl before ↦ elim (cases_lt word (at + size)) [
    | inr le ↦ inr le
    | inl behind ↦ absurd (never (record { before = before; behind = behind }))
  ]
]

same_some : (m n : ℕ) → Some m ≡ Some n → m ≡ n
same_some m n e = cc

-- ---- each word after a store

new_word : (size word number n : ℕ) (value : Span) (regions : List Region) (region : Region) → size ≡ 4 → IsStrided value → Holds value number
    → region_of (store_at word size) regions ≡ Some region → word_in (regions_with (store_at word size) number regions) word ≡ Some n → Holds value n
new_word size word number n value regions region four v held there e =
    let f = subst (λ (m : ℕ). region_of (store_at word m) regions ≡ Some region) four there in
    let g = subst (λ (m : ℕ). word_in (regions_with (store_at word m) number regions) word ≡ Some n) four e in
    let small : number < 2 ^ 32 = omega (arith, held.high, v.top) in
    subst (Holds value) (same_some number n (sym (word_there word number regions region small f) ∙ g)) held

pub covers_stored : (stretches : List Stretch) (address : Span) (size : ℕ) (value : Span) (words : List Word) (regions : List Region) (at number : ℕ)
    → AreWords words → IsStrided address → IsStrided value → IsSize size → Covers words regions → AreWritable stretches regions
    → IsStore regions address size value at number
    → Covers (stored stretches address size value words) (regions_with (store_at at size) number regions)
covers_stored stretches address size value words regions at number p a v bytes covered writable store word x n e there =
    elim (word_cases stretches address size word value x words p e) [
      | inl new ↦
          let s = word_store stretches address size value new.0 in
          let same : at ≡ word = omega (arith, new.1, s.one, store.held.low, store.held.high) in
          subst (λ (y : Span). Holds y n) (sym new.2)
          (new_word size word number n value regions store.region s.whole v (store.word s.whole)
          (subst (λ (m : ℕ). region_of (store_at m size) regions ≡ Some store.region) same store.there)
          (subst (λ (m : ℕ). word_in (regions_with (store_at m size) number regions) word ≡ Some n) same there))
      | inr old ↦
          let never : Overlaps at size word → ⊥ =
          λ overlap. true≢false (sym (changed stretches address size word a (may stretches address size word value regions at number bytes writable store overlap)) ∙ old.0) in
          covered word x n old.1 (sym (word_stays at size number word regions bytes (apart at size word never)) ∙ there)
    ]
