-- Lists of words from an address on.
use Rattle.std.proofs.Common.{◌≡◌, ℕ, zero, suc, ◌<◌, ◌≤◌, ◌+◌, Bool, true, ◌&&◌, cond, eqb, List, [], ◌∷◌, ◌++◌, Option, Some, None, length, drop, get_or, append_assoc, refl, sym, ap, subst, ◌∙◌, arith}
use Rattle.std.proofs.Math.Seq.{drop-cons}
use Rattle.domain_laws.specs.Maps.{Rises, value_at, topped_leq, topped_joined, map_leq, map_joined, entry_of}
use Rattle.domain_laws.specs.MapValues.{value_past, value_low}
use Rattle.value_domain.specs.Spans.{Span}

abbrev pub Word : Type 0
Word = ℕ × Span

add_one : (n : ℕ) → n + 1 ≡ suc n
add_one n = omega arith

pub drop_more : (words : List Word) (place : ℕ) (word : Word) → place < length words → word ≡ get_or words place word
    → drop place words ≡ word ∷ drop (place + 1) words
drop_more words place word lt e =
    drop-cons words place word lt
    ∙ ap (λ (w : Word). w ∷ drop (suc place) words) (sym e)
    ∙ ap (λ (n : ℕ). word ∷ drop n words) (sym (add_one place))

-- A word before the address is passed.
pub passed : (words : List Word) (place address other : ℕ) (word : Word) → place < length words → word ≡ get_or words place word
    → word.0 < address → address ≤ other → value_at other (drop (place + 1) words) ≡ value_at other (drop place words)
passed words place address other word lt e below le =
    sym (ap (value_at other) (drop_more words place word lt e)
    ∙ value_past other word (drop (place + 1) words) (λ f. omega (arith, f)))

pub rises_drop : (low : ℕ) (words : List Word) (place : ℕ) → Rises low words → (from : ℕ) × Rises from (drop place words)
rises_drop low words zero r = (low, r)
rises_drop low [] (suc place) r = (low, r)
rises_drop low (word ∷ words) (suc place) r = rises_drop (word.0 + 1) words place r.1

-- Words from one on rise from an address that isn't behind it.
pub rises_at : (words : List Word) (place address : ℕ) (word : Word) → (low : ℕ) × Rises low words → place < length words
    → word ≡ get_or words place word → address ≤ word.0 → Rises address (drop place words)
rises_at words place address word r lt e le =
    let s = rises_drop r.0 words place r.1 in
    let t = subst (λ (ws : List Word). Rises s.0 ws) (drop_more words place word lt e) s.1 in
    subst (Rises address) (sym (drop_more words place word lt e)) (le, t.1)

-- The value at an address, before which no word stands, is that of the first word or none.
pub first_value : (words : List Word) (address : ℕ) (word : Word) → Rises address words → 0 < length words → word ≡ get_or words 0 word
    → cond (eqb address word.0) (Some word.1) None ≡ value_at address words
first_value [] address word r lt e = absurd (omega arith)
first_value (w ∷ ws) address word r lt e =
    ap (λ (v : Word). cond (eqb address v.0) (Some v.1) None) e
    ∙ at_head address w ws r
  where
    at_head : (address : ℕ) (w : Word) (ws : List Word) → Rises address (w ∷ ws)
        → cond (eqb address w.0) (Some w.1) None ≡ cond (eqb address w.0) (Some w.1) (value_at address ws)
    at_head address w ws r = ap (cond (eqb address w.0) (Some w.1)) (sym (value_low (w.0 + 1) ws address r.1 (omega (arith, r.0))))

-- ---- two lists in step

-- The order and the joins look at the addresses of the words alone.
pub under_same_values : (leq : Span → Span → Bool) (from : ℕ) (below other words : List Word) → Rises from words
    → ((address : ℕ) → from ≤ address → value_at address below ≡ value_at address other)
    → map_leq leq below words ≡ map_leq leq other words
under_same_values leq from below other [] r same = refl
under_same_values leq from below other (word ∷ words) r same =
    let here : topped_leq leq (value_at word.0 below) (Some word.1) ≡ topped_leq leq (value_at word.0 other) (Some word.1) =
    ap (λ (v : Option Span). topped_leq leq v (Some word.1)) (same word.0 r.0) in
    let rest = under_same_values leq (word.0 + 1) below other words r.1 (λ address le. same address (omega (arith, r.0))) in
    ap (λ (b : Bool). b && map_leq leq below words) here
    ∙ ap (λ (b : Bool). topped_leq leq (value_at word.0 other) (Some word.1) && b) rest

pub joined_same_values : (rise : Span → Span → Option Span) (from : ℕ) (words newer other : List Word) → Rises from words
    → ((address : ℕ) → from ≤ address → value_at address newer ≡ value_at address other)
    → map_joined rise words newer ≡ map_joined rise words other
joined_same_values rise from [] newer other r same = refl
joined_same_values rise from (word ∷ words) newer other r same =
    let rest = joined_same_values rise (word.0 + 1) words newer other r.1 (λ address le. same address (omega (arith, r.0))) in
    ap (λ (v : Option Span). entry_of word.0 (topped_joined rise (Some word.1) v) (map_joined rise words newer)) (same word.0 r.0)
    ∙ ap (entry_of word.0 (topped_joined rise (Some word.1) (value_at word.0 other))) rest

pub entry_front : (address : ℕ) (value : Option Span) (words : List Word) → entry_of address value words ≡ entry_of address value [] ++ words
entry_front address None words = refl
entry_front address (Some value) words = refl

-- What is left of words rises behind a word of them.
rest_rises : (words : List Word) (place : ℕ) (word : Word) → (low : ℕ) × Rises low words → place < length words
    → word ≡ get_or words place word → Rises (word.0 + 1) (drop (place + 1) words)
rest_rises words place word r lt e =
    let s = rises_drop r.0 words place r.1 in
    let t = subst (λ (ws : List Word). Rises s.0 ws) (drop_more words place word lt e) s.1 in
    t.1

-- One more word is under what is left of the others.
pub step_under : (leq : Span → Span → Bool) (rest next below above : List Word) (place : ℕ) (word : Word)
    → (low : ℕ) × Rises low above → place < length above → word ≡ get_or above place word
    → ((other : ℕ) → word.0 ≤ other → value_at other next ≡ value_at other rest)
    → topped_leq leq (value_at word.0 next) (Some word.1) ≡ true
    → map_leq leq rest (drop place above) ≡ map_leq leq below above
    → map_leq leq next (drop (place + 1) above) ≡ map_leq leq below above
step_under leq rest next below above place word r lt e same test before =
    let more = drop (place + 1) above in
    let here : topped_leq leq (value_at word.0 rest) (Some word.1) ≡ true =
    ap (λ (v : Option Span). topped_leq leq v (Some word.1)) (sym (same word.0 (omega arith))) ∙ test in
    under_same_values leq (word.0 + 1) next rest more (rest_rises above place word r lt e) (λ other le. same other (omega (arith, le)))
    ∙ sym (ap (λ (b : Bool). b && map_leq leq rest more) here)
    ∙ sym (ap (map_leq leq rest) (drop_more above place word lt e))
    ∙ before

-- One more word rises by what is left of the others.
pub step_joined : (rise : Span → Span → Option Span) (both after rest next words newer : List Word) (place : ℕ) (word : Word)
    → (low : ℕ) × Rises low words → place < length words → word ≡ get_or words place word
    → ((other : ℕ) → word.0 ≤ other → value_at other next ≡ value_at other rest)
    → after ≡ both ++ entry_of word.0 (topped_joined rise (Some word.1) (value_at word.0 next)) []
    → both ++ map_joined rise (drop place words) rest ≡ map_joined rise words newer
    → after ++ map_joined rise (drop (place + 1) words) next ≡ map_joined rise words newer
step_joined rise both after rest next words newer place word r lt e same pushed before =
    let more = drop (place + 1) words in
    let entry : Option Span → List Word = λ v. entry_of word.0 (topped_joined rise (Some word.1) v) [] in
    ap (λ (ws : List Word). ws ++ map_joined rise more next) pushed
    ∙ append_assoc both (entry (value_at word.0 next)) (map_joined rise more next)
    ∙ ap (λ (ws : List Word). both ++ (entry (value_at word.0 next) ++ ws))
    (joined_same_values rise (word.0 + 1) more next rest (rest_rises words place word r lt e) (λ other le. same other (omega (arith, le))))
    ∙ ap (λ (v : Option Span). both ++ (entry v ++ map_joined rise more rest)) (same word.0 (omega arith))
    ∙ ap (λ (ws : List Word). both ++ ws) (sym (entry_front word.0 (topped_joined rise (Some word.1) (value_at word.0 rest)) (map_joined rise more rest)))
    ∙ ap (λ (ws : List Word). both ++ map_joined rise ws rest) (sym (drop_more words place word lt e))
    ∙ before
