-- Words of memory after a number is put into it.
use Rattle.std.proofs.Common.{◌≡◌, ◌≢◌, ℕ, ◌<◌, ◌≤◌, ◌+◌, ◌-◌, ◌*◌, ◌/◌, ◌%◌, ◌^◌, ◌&&◌, Bool, true, false, cond, eqb, leb, List, [], ◌∷◌, Option, Some, length, get_or, set, refl, sym, ap, subst, ◌∙◌, arith, inl, inr, ◌⊎◌}
use Rattle.std.specs.Prelude.{find, option_map}
use Rattle.std.proofs.lemmas.Bool.{and_parts, leb-true}
use Rattle.std.proofs.lemmas.List.{get_or-set_same, get_or-set_other, length-set}
use Rattle.mips_decode.specs.declared.instr.LoadOp.TheVariants.{Lw}
use Rattle.mips_decode.specs.declared.step.Touched.{Touched}
use Rattle.mips_decode.specs.Effect.{region_of, number_in, region_with, regions_with}
use Rattle.mips_decode.specs.Memory.{IsSize, number_at, with_half, with_number, load_touched}
use Rattle.mips_decode.specs.State.{Region, covers}
use Rattle.cell_memory.specs.Meaning.{store_at, word_in}

-- ---- bytes

abbrev byte : List ℕ → ℕ → ℕ
byte bytes at = get_or bytes at 0

-- A byte lies apart from those of a number.
abbrev Apart : (at size offset : ℕ) → Type 0
Apart at size offset = (at < offset) ⊎ (offset + size ≤ at)

not_there : (at size offset more : ℕ) → Apart at size offset → more < size → at ≢ offset + more
not_there at size offset more (inl lt) less e = omega (arith, e)
not_there at size offset more (inr ge) less e = omega (arith, e)

set_apart : (bytes : List ℕ) (i at value : ℕ) → at ≢ i → byte (set bytes i value) at ≡ byte bytes at
set_apart bytes i at value ne = get_or-set_other bytes i at value 0 ne

half_apart : (number offset at : ℕ) (bytes : List ℕ) → at ≢ offset → at ≢ offset + 1 → byte (with_half number offset bytes) at ≡ byte bytes at
half_apart number offset at bytes ne more =
    set_apart (set bytes offset (number / 256 % 256)) (offset + 1) at (number % 256) more
    ∙ set_apart bytes offset at (number / 256 % 256) ne

byte_apart : (number size offset at : ℕ) (bytes : List ℕ) → IsSize size → Apart at size offset → byte (with_number number size offset bytes) at ≡ byte bytes at
byte_apart number size offset at bytes (inl one) apart =
    let f = not_there at size offset 0 apart (omega (arith, one)) in
    subst (λ (n : ℕ). byte (with_number number n offset bytes) at ≡ byte bytes at) (sym one)
    (set_apart bytes offset at (number % 256) (λ e. f (omega (arith, e))))
byte_apart number size offset at bytes (inr (inl two)) apart =
    let f = not_there at size offset 0 apart (omega (arith, two)) in
    let g = not_there at size offset 1 apart (omega (arith, two)) in
    subst (λ (n : ℕ). byte (with_number number n offset bytes) at ≡ byte bytes at) (sym two)
    (half_apart number offset at bytes (λ e. f (omega (arith, e))) g)
byte_apart number size offset at bytes (inr (inr four)) apart =
    let f = not_there at size offset 0 apart (omega (arith, four)) in
    let g = not_there at size offset 1 apart (omega (arith, four)) in
    let h = not_there at size offset 2 apart (omega (arith, four)) in
    let k = not_there at size offset 3 apart (omega (arith, four)) in
    subst (λ (n : ℕ). byte (with_number number n offset bytes) at ≡ byte bytes at) (sym four)
    (half_apart number (offset + 2) at (with_half (number / 2 ^ 16) offset bytes) h (λ e. k (omega (arith, e)))
    ∙ half_apart (number / 2 ^ 16) offset at bytes (λ e. f (omega (arith, e))) g)

same_four : (a b c d e f g h : ℕ) → a ≡ e → b ≡ f → c ≡ g → d ≡ h → ((a * 256 + b) * 256 + c) * 256 + d ≡ ((e * 256 + f) * 256 + g) * 256 + h
same_four a b c d e f g h p q r s = rw (p, q, r, s) refl

-- A word apart from a number stays.
word_apart : (number size offset at : ℕ) (bytes : List ℕ) → IsSize size → (at + 4 ≤ offset) ⊎ (offset + size ≤ at)
    → number_at 4 at (with_number number size offset bytes) ≡ number_at 4 at bytes
word_apart number size offset at bytes p (inl le) =
    same_four _ _ _ _ _ _ _ _ (byte_apart number size offset at bytes p (inl (omega arith))) (byte_apart number size offset (at + 1) bytes p (inl (omega arith)))
    (byte_apart number size offset (at + 2) bytes p (inl (omega arith))) (byte_apart number size offset (at + 3) bytes p (inl (omega arith)))
word_apart number size offset at bytes p (inr le) =
    same_four _ _ _ _ _ _ _ _ (byte_apart number size offset at bytes p (inr (omega arith))) (byte_apart number size offset (at + 1) bytes p (inr (omega arith)))
    (byte_apart number size offset (at + 2) bytes p (inr (omega arith))) (byte_apart number size offset (at + 3) bytes p (inr (omega arith)))

length_half : (number offset : ℕ) (bytes : List ℕ) → length (with_half number offset bytes) ≡ length bytes
length_half number offset bytes =
    length-set (set bytes offset (number / 256 % 256)) (offset + 1) (number % 256) ∙ length-set bytes offset (number / 256 % 256)

half_first : (number offset : ℕ) (bytes : List ℕ) → offset + 1 < length bytes → byte (with_half number offset bytes) offset ≡ number / 256 % 256
half_first number offset bytes lt =
    set_apart (set bytes offset (number / 256 % 256)) (offset + 1) offset (number % 256) (λ e. omega (arith, e))
    ∙ get_or-set_same bytes offset (number / 256 % 256) 0 (omega (arith, lt))

half_second : (number offset : ℕ) (bytes : List ℕ) → offset + 1 < length bytes → byte (with_half number offset bytes) (offset + 1) ≡ number % 256
half_second number offset bytes lt =
    get_or-set_same (set bytes offset (number / 256 % 256)) (offset + 1) (number % 256) 0
    (omega (arith, lt, length-set bytes offset (number / 256 % 256)))

-- A word that is put in is read.
word_put : (number offset : ℕ) (bytes : List ℕ) → number < 2 ^ 32 → offset + 4 ≤ length bytes → number_at 4 offset (with_number number 4 offset bytes) ≡ number
word_put number offset bytes small fits =
    let top = with_half (number / 2 ^ 16) offset bytes in
    let long : length top ≡ length bytes = length_half (number / 2 ^ 16) offset bytes in
    let a : byte (with_half number (offset + 2) top) offset ≡ number / 2 ^ 16 / 256 % 256 =
    half_apart number (offset + 2) offset top (λ e. omega (arith, e)) (λ e. omega (arith, e)) ∙ half_first (number / 2 ^ 16) offset bytes (omega arith) in
    let b : byte (with_half number (offset + 2) top) (offset + 1) ≡ number / 2 ^ 16 % 256 =
    half_apart number (offset + 2) (offset + 1) top (λ e. omega (arith, e)) (λ e. omega (arith, e)) ∙ half_second (number / 2 ^ 16) offset bytes (omega arith) in
    let c : byte (with_half number (offset + 2) top) (offset + 2) ≡ number / 256 % 256 = half_first number (offset + 2) top (omega (arith, long)) in
    let e : offset + 3 ≡ offset + 2 + 1 = omega arith in
    let d : byte (with_half number (offset + 2) top) (offset + 3) ≡ number % 256 =
    ap (byte (with_half number (offset + 2) top)) e ∙ half_second number (offset + 2) top (omega (arith, long)) in
    same_four _ _ _ _ _ _ _ _ a b c d ∙ omega arith

-- ---- regions

length_by : (one two : Bool) (first second third bytes : List ℕ) → length first ≡ length bytes → length second ≡ length bytes → length third ≡ length bytes
    → length (cond one first (cond two second third)) ≡ length bytes
length_by true two first second third bytes a b c = a
length_by false true first second third bytes a b c = b
length_by false false first second third bytes a b c = c

length_number : (number size offset : ℕ) (bytes : List ℕ) → length (with_number number size offset bytes) ≡ length bytes
length_number number size offset bytes =
    length_by (eqb size 1) (eqb size 2) (set bytes offset (number % 256)) (with_half number offset bytes)
    (with_half number (offset + 2) (with_half (number / 2 ^ 16) offset bytes)) bytes
    (length-set bytes offset (number % 256)) (length_half number offset bytes)
    (length_half number (offset + 2) (with_half (number / 2 ^ 16) offset bytes) ∙ length_half (number / 2 ^ 16) offset bytes)

covers_with : (access : Touched) (number address size : ℕ) (region : Region) → covers address size (region_with access number region) ≡ covers address size region
covers_with access number address size region =
    ap (λ (n : ℕ). leb region.start address && leb (address + size) (region.start + n))
    (length_number number access.size (access.address - region.start) region.bytes)

abbrev apart_words : (at size word : ℕ) → Type 0
apart_words at size word = (word + 4 ≤ at) ⊎ (at + size ≤ word)

moved : (at size word start : ℕ) → start ≤ at → start ≤ word → apart_words at size word → (word - start + 4 ≤ at - start) ⊎ (at - start + size ≤ word - start)
moved at size word start p q (inl le) = inl (omega arith)
moved at size word start p q (inr le) = inr (omega arith)

pub covers_start : (address size : ℕ) (region : Region) → covers address size region ≡ true → region.start ≤ address
covers_start address size region e = leb-true _ _ (and_parts _ _ e).0

pub covers_end : (address size : ℕ) (region : Region) → covers address size region ≡ true → address + size ≤ region.start + length region.bytes
covers_end address size region e = leb-true _ _ (and_parts _ _ e).1

-- What a word is, by the region that it is found in.
abbrev word_by : (word : ℕ) (here : Bool) (region : Region) (more : List Region) → Option ℕ
word_by word here region more = option_map (number_in (load_touched Lw word)) (cond here (Some region) (find (covers word 4) more))

put_here : (here : Bool) (at size number word : ℕ) (region : Region) (more : List Region) → IsSize size → apart_words at size word
    → region.start ≤ at → covers word 4 region ≡ here
    → word_by word here (region_with (store_at at size) number region) more ≡ word_by word here region more
put_here true at size number word region more p apart le e =
    ap (λ (n : ℕ). Some n) (word_apart number size (at - region.start) (word - region.start) region.bytes p
    (moved at size word region.start le (covers_start word 4 region e) apart))
put_here false at size number word region more p apart le e = refl

by_region : (there : Bool) (at size number word : ℕ) (region : Region) (regions : List Region) → IsSize size → apart_words at size word
    → covers at size region ≡ there
    → word_in (regions_with (store_at at size) number regions) word ≡ word_in regions word
    → word_in (cond there (region_with (store_at at size) number region ∷ regions) (region ∷ regions_with (store_at at size) number regions)) word
    ≡ word_in (region ∷ regions) word
by_region true at size number word region regions p apart e rest =
    ap (λ (b : Bool). word_by word b (region_with (store_at at size) number region) regions) (covers_with (store_at at size) number word 4 region)
    ∙ put_here (covers word 4 region) at size number word region regions p apart (covers_start at size region e) refl
by_region false at size number word region regions p apart e rest = by_word (covers word 4 region) rest
  where
    by_word : (here : Bool) → word_in (regions_with (store_at at size) number regions) word ≡ word_in regions word
        → word_by word here region (regions_with (store_at at size) number regions) ≡ word_by word here region regions
    by_word true rest = refl
    by_word false rest = rest

-- A word apart from a store stays.
pub word_stays : (at size number word : ℕ) (regions : List Region) → IsSize size → apart_words at size word
    → word_in (regions_with (store_at at size) number regions) word ≡ word_in regions word
word_stays at size number word [] p apart = refl
word_stays at size number word (region ∷ regions) p apart =
    by_region (covers at size region) at size number word region regions p apart refl (word_stays at size number word regions p apart)

stored_in : (there : Bool) (at number : ℕ) (region found : Region) (regions : List Region) → number < 2 ^ 32 → covers at 4 region ≡ there
    → cond there (Some region) (region_of (store_at at 4) regions) ≡ Some found
    → (region_of (store_at at 4) regions ≡ Some found → word_in (regions_with (store_at at 4) number regions) at ≡ Some number)
    → word_in (cond there (region_with (store_at at 4) number region ∷ regions) (region ∷ regions_with (store_at at 4) number regions)) at ≡ Some number
stored_in true at number region found regions small e f rest =
    let le = covers_start at 4 region e in
    let fits : at - region.start + 4 ≤ length region.bytes = omega (arith, le, covers_end at 4 region e) in
    ap (λ (b : Bool). word_by at b (region_with (store_at at 4) number region) regions) (covers_with (store_at at 4) number at 4 region ∙ e)
    ∙ ap (λ (n : ℕ). Some n) (word_put number (at - region.start) region.bytes small fits)
stored_in false at number region found regions small e f rest =
    ap (λ (b : Bool). word_by at b region (regions_with (store_at at 4) number regions)) e ∙ rest f

-- A word that is stored is the number there.
pub word_there : (at number : ℕ) (regions : List Region) (found : Region) → number < 2 ^ 32 → region_of (store_at at 4) regions ≡ Some found
    → word_in (regions_with (store_at at 4) number regions) at ≡ Some number
word_there at number [] found small e = absurd cc
word_there at number (region ∷ regions) found small e =
    stored_in (covers at 4 region) at number region found regions small refl e (λ f. word_there at number regions found small f)
