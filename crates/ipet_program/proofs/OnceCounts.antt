-- What comes at most once between two entries, and only after one, comes at most as often as they do.
use Rattle.std.proofs.Common.{◌≡◌, ℕ, ◌+◌, ◌≤◌, Bool, true, false, cond, List, [], ◌∷◌, ◌++◌, refl, sym, ap, ◌∙◌, inl, inr, ◌⊎◌, arith, true≢false}
use Rattle.std.specs.Prelude.{count_by}
use Rattle.std.proofs.lemmas.Bool.{cases_Bool}
use Rattle.std.proofs.lemmas.List.Sums.{sum_by-cons}

module _ {M : Type 0} (enters : M → Bool) where
  -- Some moment enters.
  abbrev pub HasEntry : List M → Type 0
  HasEntry [] = ⊥
  HasEntry (m ∷ ms) = (enters m ≡ true) ⊎ HasEntry ms

  pub entry-after : (front back : List M) → HasEntry back → HasEntry (front ++ back)
  entry-after [] back has = has
  entry-after (m ∷ front) back has = inr (entry-after front back has)

  module _ (misses : M → Bool) where
    -- Between two misses stands an entry; before each miss stands one.
    abbrev pub IsOnce : List M → Type 0
    IsOnce ms = (front between rest : List M) (one other : M) → ms ≡ front ++ one ∷ between ++ other ∷ rest →
        misses one ≡ true → misses other ≡ true → HasEntry between

    abbrev pub IsGuarded : List M → Type 0
    IsGuarded ms = (between rest : List M) (other : M) → ms ≡ between ++ other ∷ rest → misses other ≡ true → HasEntry between

    once-rest : (m : M) (ms : List M) → IsOnce (m ∷ ms) → IsOnce ms
    once-rest m ms once =
        λ front between rest one other e. once (m ∷ front) between rest one other (ap (λ (l : List M). m ∷ l) e)

    guarded-after : (m : M) (ms : List M) → IsOnce (m ∷ ms) → misses m ≡ true → IsGuarded ms
    guarded-after m ms once miss =
        λ between rest other e. once [] between rest m other (ap (λ (l : List M). m ∷ l) e) miss

    guarded-rest : (m : M) (ms : List M) → IsGuarded (m ∷ ms) → enters m ≡ false → IsGuarded ms
    guarded-rest m ms guarded past = λ between rest other e miss.
        elim (guarded (m ∷ between) rest other (ap (λ (l : List M). m ∷ l) e) miss) as (λ _. HasEntry between) [
          | inl entered ↦ absurd (true≢false (sym entered ∙ past))
          | inr has ↦ has
        ]

    guarded-first : (m : M) (ms : List M) → IsGuarded (m ∷ ms) → misses m ≡ false
    guarded-first m ms guarded =
        elim (cases_Bool (misses m)) as (λ _. misses m ≡ false) [
          | inl miss ↦ absurd (guarded [] ms m refl miss)
          | inr none ↦ none
        ]

    -- One miss more than there are entries at most, and none more where an entry stands before the first miss.
    abbrev AreFew : List M → Type 0
    AreFew ms = (IsOnce ms → count_by misses ms ≤ count_by enters ms + 1)
        × (IsOnce ms → IsGuarded ms → count_by misses ms ≤ count_by enters ms)

    are-few : (ms : List M) → AreFew ms
    are-few [] = (λ once. omega arith, λ once guarded. omega arith)
    are-few (m ∷ ms) =
        let rest = are-few ms in
        let missed : count_by misses (m ∷ ms) ≡ cond (misses m) 1 0 + count_by misses ms =
        sum_by-cons (λ (x : M). cond (misses x) 1 0) m ms in
        let entered : count_by enters (m ∷ ms) ≡ cond (enters m) 1 0 + count_by enters ms =
        sum_by-cons (λ (x : M). cond (enters x) 1 0) m ms in (
          λ once. elim (cases_Bool (misses m)) as (λ _. count_by misses (m ∷ ms) ≤ count_by enters (m ∷ ms) + 1) [
            | inl miss ↦
                let one : ◌≡◌ {A = ℕ} (cond (misses m) 1 0) 1 = ap (λ (b : Bool). cond b 1 0) miss in
                let low = rest.1 (once-rest m ms once) (guarded-after m ms once miss) in
                omega (arith, missed, entered, one, low)
            | inr none ↦
                let nothing : ◌≡◌ {A = ℕ} (cond (misses m) 1 0) 0 = ap (λ (b : Bool). cond b 1 0) none in
                let low = rest.0 (once-rest m ms once) in
                omega (arith, missed, entered, nothing, low)
          ],
          λ once guarded.
              let none = guarded-first m ms guarded in
              let nothing : ◌≡◌ {A = ℕ} (cond (misses m) 1 0) 0 = ap (λ (b : Bool). cond b 1 0) none in
              elim (cases_Bool (enters m)) as (λ _. count_by misses (m ∷ ms) ≤ count_by enters (m ∷ ms)) [
                | inl into ↦
                    let one : ◌≡◌ {A = ℕ} (cond (enters m) 1 0) 1 = ap (λ (b : Bool). cond b 1 0) into in
                    let low = rest.0 (once-rest m ms once) in
                    omega (arith, missed, entered, nothing, one, low)
                | inr past ↦
                    let low = rest.1 (once-rest m ms once) (guarded-rest m ms guarded past) in
                    omega (arith, missed, entered, nothing, low)
              ],
        )

    pub once-counts : (ms : List M) → IsOnce ms → IsGuarded ms → count_by misses ms ≤ count_by enters ms
    once-counts ms once guarded = (are-few ms).1 once guarded
