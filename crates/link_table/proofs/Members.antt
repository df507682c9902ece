-- Which items stand in a list, and lists in which no item stands twice.
use Rattle.std.proofs.Common.{◌≡◌, ◌≢◌, ℕ, zero, suc, ◌<◌, ◌≤◌, ◌⊎◌, ◌==◌, ◌||◌, true, false, eqb, List, [], ◌∷◌, ◌++◌, length, get_or, Contains, refl, sym, ◌∙◌, ap, ap₂, inl, inr, arith}
use Rattle.std.specs.List.{IsDistinct, list_any}
use Rattle.std.specs.List.{AllByRecursion}
use Rattle.std.proofs.lemmas.Bool.{cases_eq, cases_Bool, both_ways, eq-eqb, ne_eqb, eqb-true, or_cases, or_right, or_parts}
use Rattle.std.proofs.lemmas.Map.Steps.{length-le_from_distinct_below}
use Rattle.link_table.specs.Items.{without, is_in, AreApart}

pub is_in-same : (x item : ℕ) (xs : List ℕ) → item ≡ x → is_in (x ∷ xs) item ≡ true
is_in-same x item xs e = rw (eq-eqb x item (sym e)) refl

pub is_in-other : (x item : ℕ) (xs : List ℕ) → item ≢ x → is_in (x ∷ xs) item ≡ is_in xs item
is_in-other x item xs differ = rw (ne_eqb x item (λ e. differ (sym e))) refl

pub is_in-later : (x item : ℕ) (xs : List ℕ) → is_in xs item ≡ true → is_in (x ∷ xs) item ≡ true
is_in-later x item xs h = or_right (x == item) (is_in xs item) h

pub is_in-cases : (x item : ℕ) (xs : List ℕ) → is_in (x ∷ xs) item ≡ true → (item ≡ x) ⊎ (is_in xs item ≡ true)
is_in-cases x item xs h = elim (or_cases (x == item) (is_in xs item) h) [ inl e ↦ inl (sym (eqb-true x item e)) | inr k ↦ inr k ]

-- An item that doesn't stand in a list is not the first one, nor among the others.
pub not_first : (x item : ℕ) (xs : List ℕ) → is_in (x ∷ xs) item ≡ false → item ≢ x
not_first x item xs h e = both_ways (is_in (x ∷ xs) item) h (is_in-same x item xs e)

pub not_later : (x item : ℕ) (xs : List ℕ) → is_in (x ∷ xs) item ≡ false → is_in xs item ≡ false
not_later x item xs h = (or_parts (x == item) (is_in xs item) h).1

pub differs : (xs : List ℕ) (item other : ℕ) → is_in xs item ≡ false → is_in xs other ≡ true → other ≢ item
differs xs item other h k e = both_ways (is_in xs item) h (ap (λ n. is_in xs n) (sym e) ∙ k)

-- The same as Contains.
pub is_in-from_Contains : (xs : List ℕ) (item : ℕ) → Contains xs item → is_in xs item ≡ true
is_in-from_Contains xs item there = at xs there.0 there.1 there.2
  where
    at : (ys : List ℕ) (k : ℕ) → k < length ys → get_or ys k item ≡ item → is_in ys item ≡ true
    at [] k h e = absurd (omega arith)
    at (x ∷ ys) zero h e = is_in-same x item ys (sym e)
    at (x ∷ ys) (suc k) h e = is_in-later x item ys (at ys k (omega arith) e)

pub Contains-from_is_in : (xs : List ℕ) (item : ℕ) → is_in xs item ≡ true → Contains xs item
Contains-from_is_in [] item h = absurd (both_ways false refl h)
Contains-from_is_in (x ∷ xs) item h = elim (is_in-cases x item xs h) [
  | inl e ↦ (zero, omega arith, sym e)
  | inr k ↦ later (Contains-from_is_in xs item k)
]
  where
    later : Contains xs item → Contains (x ∷ xs) item
    later there = (suc there.0, let h : there.0 < length xs = there.1 in omega arith, there.2)

pub not_Contains : (xs : List ℕ) (item : ℕ) → (Contains xs item → ⊥) → is_in xs item ≡ false
not_Contains xs item none = elim (cases_Bool (is_in xs item)) [
  | inl h ↦ absurd (none (Contains-from_is_in xs item h))
  | inr h ↦ h
]

-- One item more at the end.
pub is_in-push : (xs : List ℕ) (last item : ℕ) → is_in (xs ++ last ∷ []) item ≡ true → (is_in xs item ≡ true) ⊎ (item ≡ last)
is_in-push [] last item h = elim (is_in-cases last item [] h) [ inl e ↦ inr e | inr k ↦ inl k ]
is_in-push (x ∷ xs) last item h = elim (is_in-cases x item (xs ++ last ∷ []) h) [
  | inl e ↦ inl (is_in-same x item xs e)
  | inr k ↦ elim (is_in-push xs last item k) [ inl t ↦ inl (is_in-later x item xs t) | inr t ↦ inr t ]
]

pub is_in-pushed : (xs : List ℕ) (last item : ℕ) → is_in xs item ≡ true → is_in (xs ++ last ∷ []) item ≡ true
is_in-pushed [] last item h = absurd (both_ways false refl h)
is_in-pushed (x ∷ xs) last item h = elim (is_in-cases x item xs h) [
  | inl e ↦ is_in-same x item (xs ++ last ∷ []) e
  | inr k ↦ is_in-later x item (xs ++ last ∷ []) (is_in-pushed xs last item k)
]

pub is_in-last : (xs : List ℕ) (last item : ℕ) → item ≡ last → is_in (xs ++ last ∷ []) item ≡ true
is_in-last [] last item e = is_in-same last item [] e
is_in-last (x ∷ xs) last item e = is_in-later x item (xs ++ last ∷ []) (is_in-last xs last item e)

not_pushed : (xs : List ℕ) (last item : ℕ) → is_in xs item ≡ false → item ≢ last → is_in (xs ++ last ∷ []) item ≡ false
not_pushed xs last item h differ = elim (cases_Bool (is_in (xs ++ last ∷ []) item)) [
  | inl k ↦ elim (is_in-push xs last item k) [ inl t ↦ absurd (both_ways (is_in xs item) h t) | inr e ↦ absurd (differ e) ]
  | inr k ↦ k
]

pub AreApart-push : (xs : List ℕ) (last : ℕ) → AreApart xs → is_in xs last ≡ false → AreApart (xs ++ last ∷ [])
AreApart-push [] last apart h = (refl, tt)
AreApart-push (x ∷ xs) last apart h =
    (not_pushed xs last x apart.0 (λ e. not_first x last xs h (sym e)), AreApart-push xs last apart.1 (not_later x last xs h))

-- Without an item.
pub without-same : (x item : ℕ) (xs : List ℕ) → x ≡ item → without (x ∷ xs) item ≡ xs
without-same x item xs e = rw (eq-eqb x item e) refl

pub without-other : (x item : ℕ) (xs : List ℕ) → x ≢ item → without (x ∷ xs) item ≡ x ∷ without xs item
without-other x item xs differ = rw (ne_eqb x item differ) refl

pub is_in-without : (xs : List ℕ) (item other : ℕ) → is_in (without xs item) other ≡ true → is_in xs other ≡ true
is_in-without [] item other h = h
is_in-without (x ∷ xs) item other h = elim (cases_eq x item) [
  | inl e ↦ is_in-later x other xs (ap (λ l. is_in l other) (sym (without-same x item xs e)) ∙ h)
  | inr differ ↦ elim (is_in-cases x other (without xs item) (ap (λ l. is_in l other) (sym (without-other x item xs differ)) ∙ h)) [
    | inl e ↦ is_in-same x other xs e
    | inr k ↦ is_in-later x other xs (is_in-without xs item other k)
  ]
]

pub is_in-left : (xs : List ℕ) (item other : ℕ) → is_in xs other ≡ true → other ≢ item → is_in (without xs item) other ≡ true
is_in-left [] item other h differ = h
is_in-left (x ∷ xs) item other h differ = elim (cases_eq x item) [
  | inl e ↦ elim (is_in-cases x other xs h) [
    | inl f ↦ absurd (differ (f ∙ e))
    | inr k ↦ ap (λ l. is_in l other) (without-same x item xs e) ∙ k
  ]
  | inr apart ↦ ap (λ l. is_in l other) (without-other x item xs apart) ∙ elim (is_in-cases x other xs h) [
    | inl f ↦ is_in-same x other (without xs item) f
    | inr k ↦ is_in-later x other (without xs item) (is_in-left xs item other k differ)
  ]
]

not_without : (xs : List ℕ) (item other : ℕ) → is_in xs other ≡ false → is_in (without xs item) other ≡ false
not_without xs item other h = elim (cases_Bool (is_in (without xs item) other)) [
  | inl k ↦ absurd (both_ways (is_in xs other) h (is_in-without xs item other k))
  | inr k ↦ k
]

pub AreApart-without : (xs : List ℕ) (item : ℕ) → AreApart xs → AreApart (without xs item)
AreApart-without [] item apart = apart
AreApart-without (x ∷ xs) item apart = elim (cases_eq x item) [
  | inl e ↦ rw (without-same x item xs e) apart.1
  | inr differ ↦ rw (without-other x item xs differ) (not_without xs item x apart.0, AreApart-without xs item apart.1)
]

pub is_in-gone : (xs : List ℕ) (item : ℕ) → AreApart xs → is_in (without xs item) item ≡ false
is_in-gone [] item apart = refl
is_in-gone (x ∷ xs) item apart = elim (cases_eq x item) [
  | inl e ↦ ap (λ l. is_in l item) (without-same x item xs e) ∙ ap (λ n. is_in xs n) (sym e) ∙ apart.0
  | inr differ ↦ ap (λ l. is_in l item) (without-other x item xs differ) ∙
      is_in-other x item (without xs item) (λ e. differ (sym e)) ∙ is_in-gone xs item apart.1
]

-- So many items stand apart below a number at most.
unequal : (x : ℕ) (xs : List ℕ) → is_in xs x ≡ false → AllByRecursion (λ y. eqb x y ≡ false) xs
unequal x [] h = tt
unequal x (y ∷ ys) h = (ne_eqb x y (not_first y x ys h), unequal x ys (not_later y x ys h))

distinct : (xs : List ℕ) → AreApart xs → IsDistinct eqb xs
unfolding IsDistinct
distinct [] apart = tt
distinct (x ∷ xs) apart = (unequal x xs apart.0, distinct xs apart.1)

eqb-turned : (a b : ℕ) → eqb a b ≡ eqb b a
eqb-turned a b = elim (cases_eq a b) [
  | inl e ↦ eq-eqb a b e ∙ sym (eq-eqb b a (sym e))
  | inr differ ↦ ne_eqb a b differ ∙ sym (ne_eqb b a (λ e. differ (sym e)))
]

any-is_in : (xs : List ℕ) (item : ℕ) → list_any (eqb item) xs ≡ is_in xs item
any-is_in [] item = refl
any-is_in (x ∷ xs) item = ap₂ (λ a b. a || b) (eqb-turned item x) (any-is_in xs item)

pub length-AreApart : (xs : List ℕ) (most : ℕ) → AreApart xs → ((item : ℕ) → is_in xs item ≡ true → item < most) → length xs ≤ most
length-AreApart xs most apart below =
    length-le_from_distinct_below xs most (distinct xs apart) (λ item h. below item (sym (any-is_in xs item) ∙ h))
