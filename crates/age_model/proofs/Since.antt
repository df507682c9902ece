-- What stands before a block in its set, after a touch of it and then of blocks of a list alone.
use Rattle.std.proofs.Common.{◌≡◌, ℕ, zero, suc, ◌+◌, ◌<◌, ◌≤◌, Bool, true, false, cond, List, [], ◌∷◌, ◌++◌, length, take, refl, sym, ap, ◌∙◌, subst, inl, inr, arith}
use Rattle.std.specs.Prelude.{◌==◌, ◌||◌}
use Rattle.std.proofs.lemmas.Bool.{cases_Bool}
use Rattle.std.proofs.lemmas.Bool.Decides.{nat_tests}
use Rattle.lru_concrete.specs.Sets.{is_in, AreApart, without, touched}
use Rattle.age_model.specs.Since.{since, after_touches}

abbrev pub Within : List ℕ → List ℕ → Type 0
Within [] ys = Unit {0}
Within (x ∷ xs) ys = (is_in ys x ≡ true) × Within xs ys

same-true : (x y : ℕ) → (x == y) ≡ true → x ≡ y
same-true x y e = grind (arith, nat_tests, e)

self : (x : ℕ) → (x == x) ≡ true
self x = grind (arith, nat_tests)

swapped : (x y : ℕ) → (x == y) ≡ false → (y == x) ≡ false
swapped x y e = grind (arith, nat_tests, e)

length-without : (xs : List ℕ) (c : ℕ) → is_in xs c ≡ true → length (without xs c) + 1 ≡ length xs
length-without [] c e = absurd (grind (arith, e))
length-without (x ∷ xs) c e = elim (cases_Bool (x == c)) as (λ _. length (cond (x == c) xs (x ∷ without xs c)) + 1 ≡ length (x ∷ xs)) [
  | inl h ↦ ap (λ (b : Bool). length (cond b xs (x ∷ without xs c)) + 1) h ∙ omega arith
  | inr h ↦ let more = length-without xs c (sym (ap (λ (b : Bool). b || is_in xs c) h) ∙ e) in
      ap (λ (b : Bool). length (cond b xs (x ∷ without xs c)) + 1) h ∙ omega (arith, more)
]

-- Another block stays.
in-without : (xs : List ℕ) (c d : ℕ) → (c == d) ≡ false → is_in xs d ≡ true → is_in (without xs c) d ≡ true
in-without [] c d apart e = e
in-without (x ∷ xs) c d apart e = elim (cases_Bool (x == c)) as (λ _. is_in (cond (x == c) xs (x ∷ without xs c)) d ≡ true) [
  | inl h ↦
      let other : (x == d) ≡ false = grind (arith, nat_tests, h, apart) in
      ap (λ (b : Bool). is_in (cond b xs (x ∷ without xs c)) d) h ∙ sym (ap (λ (b : Bool). b || is_in xs d) other) ∙ e
  | inr h ↦ ap (λ (b : Bool). is_in (cond b xs (x ∷ without xs c)) d) h
      ∙ (elim (cases_Bool (x == d)) as (λ _. ((x == d) || is_in (without xs c) d) ≡ true) [
        | inl k ↦ ap (λ (b : Bool). b || is_in (without xs c) d) k
        | inr k ↦ ap (λ (b : Bool). b || is_in (without xs c) d) k
            ∙ in-without xs c d apart (sym (ap (λ (b : Bool). b || is_in xs d) k) ∙ e)
      ])
]

not-in-without : (xs : List ℕ) (c d : ℕ) → is_in xs d ≡ false → is_in (without xs c) d ≡ false
not-in-without [] c d e = e
not-in-without (x ∷ xs) c d e =
    elim (cases_Bool (x == d)) as (λ _. is_in (without (x ∷ xs) c) d ≡ false) [
      | inl k ↦ absurd (grind (arith, sym (ap (λ (b : Bool). b || is_in xs d) k) ∙ e))
      | inr k ↦
          let rest : is_in xs d ≡ false = sym (ap (λ (b : Bool). b || is_in xs d) k) ∙ e in
          elim (cases_Bool (x == c)) as (λ _. is_in (cond (x == c) xs (x ∷ without xs c)) d ≡ false) [
            | inl h ↦ ap (λ (b : Bool). is_in (cond b xs (x ∷ without xs c)) d) h ∙ rest
            | inr h ↦ ap (λ (b : Bool). is_in (cond b xs (x ∷ without xs c)) d) h
                ∙ ap (λ (b : Bool). b || is_in (without xs c) d) k ∙ not-in-without xs c d rest
          ]
    ]

-- AreApart blocks of a list are at most as many as the list has.
within-without : (xs ys : List ℕ) (c : ℕ) → is_in xs c ≡ false → Within xs ys → Within xs (without ys c)
within-without [] ys c none w = tt
within-without (x ∷ xs) ys c none w =
    elim (cases_Bool (x == c)) as (λ _. Within (x ∷ xs) (without ys c)) [
      | inl k ↦ absurd (grind (arith, sym (ap (λ (b : Bool). b || is_in xs c) k) ∙ none))
      | inr k ↦ (
        in-without ys c x (swapped x c k) w.0,
        within-without xs ys c (sym (ap (λ (b : Bool). b || is_in xs c) k) ∙ none) w.1,
      )
    ]

pub few : (xs ys : List ℕ) → AreApart xs → Within xs ys → length xs ≤ length ys
few [] ys distinct w = omega arith
few (x ∷ xs) ys distinct w =
    let rest = few xs (without ys x) distinct.1 (within-without xs ys x distinct.0 w.1) in
    let one = length-without ys x w.0 in
    omega (arith, rest, one)

distinct-without : (xs : List ℕ) (c : ℕ) → AreApart xs → AreApart (without xs c) × (is_in (without xs c) c ≡ false)
distinct-without [] c d = (tt, refl)
distinct-without (x ∷ xs) c d =
    elim (cases_Bool (x == c)) as (λ _. AreApart (cond (x == c) xs (x ∷ without xs c)) × (is_in (cond (x == c) xs (x ∷ without xs c)) c ≡ false)) [
      | inl h ↦
          let same = same-true x c h in
          subst (λ (b : Bool). AreApart (cond b xs (x ∷ without xs c)) × (is_in (cond b xs (x ∷ without xs c)) c ≡ false)) (sym h)
          (d.1, subst (λ (y : ℕ). is_in xs y ≡ false) same d.0)
      | inr h ↦
          let rest = distinct-without xs c d.1 in
          subst (λ (b : Bool). AreApart (cond b xs (x ∷ without xs c)) × (is_in (cond b xs (x ∷ without xs c)) c ≡ false)) (sym h)
          ((not-in-without xs c x d.0, rest.0), ap (λ (b : Bool). b || is_in (without xs c) c) h ∙ rest.1)
    ]

within-less : (xs ys : List ℕ) (c : ℕ) → Within xs ys → Within (without xs c) ys
within-less [] ys c w = tt
within-less (x ∷ xs) ys c w = elim (cases_Bool (x == c)) as (λ _. Within (cond (x == c) xs (x ∷ without xs c)) ys) [
  | inl h ↦ subst (λ (b : Bool). Within (cond b xs (x ∷ without xs c)) ys) (sym h) w.1
  | inr h ↦ subst (λ (b : Bool). Within (cond b xs (x ∷ without xs c)) ys) (sym h) (w.0, within-less xs ys c w.1)
]

-- A touch before the block, of another one.
without-split : (xs : List ℕ) (b c : ℕ) (post : List ℕ) → (b == c) ≡ false →
    (later : List ℕ) × (without (xs ++ b ∷ post) c ≡ without xs c ++ b ∷ later)
without-split [] b c post apart = (without post c, ap (λ (t : Bool). cond t post (b ∷ without post c)) apart)
without-split (x ∷ xs) b c post apart =
    elim (cases_Bool (x == c))
    as (λ _. (later : List ℕ) × (cond (x == c) (xs ++ b ∷ post) (x ∷ without (xs ++ b ∷ post) c) ≡ cond (x == c) xs (x ∷ without xs c) ++ b ∷ later)) [
      | inl h ↦ (
        post,
        ap (λ (t : Bool). cond t (xs ++ b ∷ post) (x ∷ without (xs ++ b ∷ post) c)) h
            ∙ sym (ap (λ (t : Bool). cond t xs (x ∷ without xs c) ++ b ∷ post) h),
      )
      | inr h ↦ let rest = without-split xs b c post apart in (
        rest.0,
        ap (λ (t : Bool). cond t (xs ++ b ∷ post) (x ∷ without (xs ++ b ∷ post) c)) h ∙ ap (λ (l : List ℕ). x ∷ l) rest.1
            ∙ sym (ap (λ (t : Bool). cond t xs (x ∷ without xs c) ++ b ∷ rest.0) h),
      )
    ]

take-split : (n : ℕ) (xs : List ℕ) (b : ℕ) (post : List ℕ) → length xs < n →
    (later : List ℕ) × (take n (xs ++ b ∷ post) ≡ xs ++ b ∷ later)
take-split zero xs b post h = absurd (omega (arith, h))
take-split (suc n) [] b post h = (take n post, refl)
take-split (suc n) (x ∷ xs) b post h = let rest = take-split n xs b post (omega (arith, h)) in (rest.0, ap (λ (l : List ℕ). x ∷ l) rest.1)

-- The block stands in the set, and only blocks of the list stand before it.
pub record IsSince (xs : List ℕ) (b : ℕ) (blocks : List ℕ) : Type 0 where
  pub pre : List ℕ
  pub post : List ℕ
  pub order : blocks ≡ pre ++ b ∷ post
  pub distinct : AreApart pre
  pub within : Within pre xs

pub since-start : (ways : ℕ) (xs : List ℕ) (b : ℕ) (blocks : List ℕ) → 1 ≤ ways → IsSince xs b (touched ways blocks b)
since-start zero xs b blocks some = absurd (omega (arith, some))
since-start (suc w) xs b blocks some = record { pre = []; post = take w (without blocks b); order = refl; distinct = tt; within = tt }

pub since-touch : (ways : ℕ) (xs : List ℕ) (b c : ℕ) (blocks : List ℕ) → length xs < ways → (b == c) ≡ false → is_in xs c ≡ true →
    IsSince xs b blocks → IsSince xs b (touched ways blocks c)
since-touch ways xs b c blocks short apart there is =
    let split = without-split is.pre b c is.post apart in
    let apart_pre = distinct-without is.pre c is.distinct in
    let distinct : AreApart (c ∷ without is.pre c) = (apart_pre.1, apart_pre.0) in
    let within : Within (c ∷ without is.pre c) xs = (there, within-less is.pre xs c is.within) in
    let low = few (c ∷ without is.pre c) xs distinct within in
    let cut = take-split ways (c ∷ without is.pre c) b split.0 (omega (arith, low, short)) in
    record {
      pre = c ∷ without is.pre c;
      post = cut.0;
      order = ap (λ (l : List ℕ). take ways (c ∷ without l c)) is.order ∙ ap (λ (l : List ℕ). take ways (c ∷ l)) split.1 ∙ cut.1;
      distinct = distinct;
      within = within;
    }

there-in : (xs : List ℕ) (b : ℕ) (post : List ℕ) → is_in (xs ++ b ∷ post) b ≡ true
there-in [] b post = ap (λ (t : Bool). t || is_in post b) (self b)
there-in (x ∷ xs) b post = elim (cases_Bool (x == b)) as (λ _. ((x == b) || is_in (xs ++ b ∷ post) b) ≡ true) [
  | inl h ↦ ap (λ (t : Bool). t || is_in (xs ++ b ∷ post) b) h
  | inr h ↦ ap (λ (t : Bool). t || is_in (xs ++ b ∷ post) b) h ∙ there-in xs b post
]

pub since-there : (xs : List ℕ) (b : ℕ) (blocks : List ℕ) → IsSince xs b blocks → is_in blocks b ≡ true
since-there xs b blocks is = ap (λ (l : List ℕ). is_in l b) is.order ∙ there-in is.pre b is.post

-- A touched block stays in its set while fewer blocks than the ways were touched since.
since-touches : (ways : ℕ) (xs : List ℕ) (b : ℕ) (blocks touches : List ℕ) → length xs < ways → is_in touches b ≡ true →
    ((c : ℕ) → is_in (since b touches) c ≡ true → is_in xs c ≡ true) → IsSince xs b (after_touches ways blocks touches)
since-touches ways xs b blocks [] short there within = absurd (grind (arith, there))
since-touches ways xs b blocks (touch ∷ touches) short there within =
    elim (cases_Bool (touch == b)) as (λ _. IsSince xs b (touched ways (after_touches ways blocks touches) touch)) [
      | inl h ↦ subst (λ (t : ℕ). IsSince xs b (touched ways (after_touches ways blocks touches) t))
          (sym (same-true touch b h)) (since-start ways xs b (after_touches ways blocks touches) (omega (arith, short)))
      | inr h ↦
          let split : since b (touch ∷ touches) ≡ touch ∷ since b touches =
          ap (λ (t : Bool). cond t [] (touch ∷ since b touches)) h in
          let first : is_in xs touch ≡ true = within touch (ap (λ (l : List ℕ). is_in l touch) split ∙
          ap (λ (t : Bool). t || is_in (since b touches) touch) (self touch)) in
          since-touch ways xs b touch (after_touches ways blocks touches) short (swapped touch b h) first
          (since-touches ways xs b blocks touches short
          (sym (ap (λ (t : Bool). t || is_in touches b) h) ∙ there)
          (λ c among. within c (ap (λ (l : List ℕ). is_in l c) split ∙ later touch c (since b touches) among)))
    ]
  where
    later : (x c : ℕ) (ys : List ℕ) → is_in ys c ≡ true → is_in (x ∷ ys) c ≡ true
    later x c ys among = elim (cases_Bool (x == c)) as (λ _. is_in (x ∷ ys) c ≡ true) [
      | inl h ↦ ap (λ (t : Bool). t || is_in ys c) h
      | inr h ↦ ap (λ (t : Bool). t || is_in ys c) h ∙ among
    ]

pub kept-since : (ways : ℕ) (xs : List ℕ) (b : ℕ) (blocks touches : List ℕ) → length xs < ways → is_in touches b ≡ true →
    ((c : ℕ) → is_in (since b touches) c ≡ true → is_in xs c ≡ true) → is_in (after_touches ways blocks touches) b ≡ true
kept-since ways xs b blocks touches short there within =
    since-there xs b (after_touches ways blocks touches) (since-touches ways xs b blocks touches short there within)
