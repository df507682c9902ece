-- A touch keeps the contents of a cache lawful.
use Rattle.std.proofs.Common.{◌≡◌, ℕ, zero, suc, ◌≤◌, ◌⊎◌, true, false, List, [], ◌∷◌, length, get_or, take, refl, sym, ◌∙◌, ap, inl, inr, arith, length-set, get_or-set_same, get_or-set_other}
use Rattle.std.proofs.lemmas.Bool.{cases_eq, cases_lt, both_ways, false_from_ne_true}
use Rattle.std.proofs.lemmas.List.{set_past, length-take}
use Rattle.link_table.specs.Items.{is_in, AreApart, without}
use Rattle.link_table.proofs.Members.{is_in-same, is_in-later, is_in-cases, not_first, not_later, is_in-without, is_in-gone, without-other, AreApart-without}
use Rattle.lru_concrete.specs.declared.level.Shape.{Shape}
use Rattle.lru_concrete.specs.Sets.{touched}
use Rattle.lru_concrete.specs.Contents.{IsLawful, set_in, set_of, touching}

-- A block that doesn't stand in a set isn't taken from it.
pub without-none : (blocks : List ℕ) (block : ℕ) → is_in blocks block ≡ false → without blocks block ≡ blocks
without-none [] block h = refl
without-none (x ∷ blocks) block h =
    without-other x block blocks (λ e. not_first x block blocks h (sym e)) ∙
    ap (λ l. x ∷ l) (without-none blocks block (not_later x block blocks h))

is_in-take : (n : ℕ) (xs : List ℕ) (item : ℕ) → is_in (take n xs) item ≡ true → is_in xs item ≡ true
is_in-take zero xs item h = absurd (both_ways false refl h)
is_in-take (suc n) [] item h = h
is_in-take (suc n) (x ∷ xs) item h = elim (is_in-cases x item (take n xs) h) [
  | inl e ↦ is_in-same x item xs e
  | inr k ↦ is_in-later x item xs (is_in-take n xs item k)
]

AreApart-take : (n : ℕ) (xs : List ℕ) → AreApart xs → AreApart (take n xs)
AreApart-take zero xs apart = tt
AreApart-take (suc n) [] apart = apart
AreApart-take (suc n) (x ∷ xs) apart =
    (false_from_ne_true (is_in (take n xs) x) (λ h. both_ways (is_in xs x) apart.0 (is_in-take n xs x h)), AreApart-take n xs apart.1)

-- One set after a touch.
pub touched-few : (ways : ℕ) (blocks : List ℕ) (block : ℕ) → length (touched ways blocks block) ≤ ways
touched-few ways blocks block = omega (arith, length-take ways (block ∷ without blocks block))

pub touched-apart : (ways : ℕ) (blocks : List ℕ) (block : ℕ) → AreApart blocks → AreApart (touched ways blocks block)
touched-apart ways blocks block apart =
    AreApart-take ways (block ∷ without blocks block) (is_in-gone blocks block apart, AreApart-without blocks block apart)

pub touched-own : (ways : ℕ) (blocks : List ℕ) (block other : ℕ) → is_in (touched ways blocks block) other ≡ true →
    (other ≡ block) ⊎ (is_in blocks other ≡ true)
touched-own ways blocks block other h = elim (is_in-cases block other (without blocks block)
    (is_in-take ways (block ∷ without blocks block) other h)) [
      | inl e ↦ inl e
      | inr k ↦ inr (is_in-without blocks block other k)
    ]

pub lawful-touching : (shape : Shape) (blocks : List (List ℕ)) (block : ℕ) → IsLawful shape blocks →
    IsLawful shape (touching shape blocks block)
lawful-touching shape blocks block lawful =
    let here : ℕ = set_in shape block in
    let new : List ℕ = touched shape.ways (set_of shape blocks block) block in
    record {
      count = length-set blocks here new ∙ lawful.count;
      few = λ other. elim (cases other) [
        | inl e ↦ rw e (touched-few shape.ways (set_of shape blocks block) block)
        | inr e ↦ rw e (lawful.few other)
      ];
      apart = λ other. elim (cases other) [
        | inl e ↦ rw e (touched-apart shape.ways (set_of shape blocks block) block (lawful.apart here))
        | inr e ↦ rw e (lawful.apart other)
      ];
      own = λ other c h. elim (cases_eq other here) [
        | inl same ↦ elim (cases other) [
          | inl e ↦ elim (touched-own shape.ways (set_of shape blocks block) block c (ap (λ l. is_in l c) (sym e) ∙ h)) [
            | inl f ↦ ap (λ n. set_in shape n) f ∙ sym same
            | inr k ↦ lawful.own here c k ∙ sym same
          ]
          | inr e ↦ lawful.own other c (ap (λ l. is_in l c) (sym e) ∙ h)
        ]
        | inr differ ↦ lawful.own other c (ap (λ l. is_in l c) (sym (get_or-set_other blocks here other new [] differ)) ∙ h)
      ];
    }
  where
    cases : (other : ℕ) → (get_or (touching shape blocks block) other [] ≡ touched shape.ways (set_of shape blocks block) block) ⊎
        (get_or (touching shape blocks block) other [] ≡ get_or blocks other [])
    cases other = elim (cases_eq other (set_in shape block)) [
      | inl e ↦ elim (cases_lt (set_in shape block) (length blocks)) [
        | inl h ↦ inl (ap (λ n. get_or (touching shape blocks block) n []) e ∙
            get_or-set_same blocks (set_in shape block) (touched shape.ways (set_of shape blocks block) block) [] h)
        | inr h ↦ inr (ap (λ (l : List (List ℕ)). get_or l other []) (set_past blocks (set_in shape block) _ h))
      ]
      | inr differ ↦ inr (get_or-set_other blocks (set_in shape block) other _ [] differ)
    ]
