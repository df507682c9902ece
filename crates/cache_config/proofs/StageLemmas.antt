-- The stages of a side from a cache on.
use Rattle.std.proofs.Common.{◌≡◌, ℕ, zero, suc, ◌+◌, ◌-◌, ◌<◌, true, false, List, [], ◌∷◌, ◌++◌, length, map, get_or, drop, refl, ap, arith}
use Rattle.std.proofs.lemmas.List.{drop_more}
use Rattle.lru_concrete.specs.Chains.{chain, serves}
use Rattle.lru_concrete.specs.declared.level.Level.{Level}
use Rattle.lru_concrete.specs.declared.level.Side.{Side}

-- The latencies of the stages of a side: these caches, then memory.
abbrev pub stages : Side → ℕ → List Level → List ℕ
stages side memory levels = map (λ (level : Level). level.latency) (chain side levels) ++ (memory ∷ [])

-- The stages from a cache on: where it serves the side, it's the first of them.
pub served-stages : (side : Side) (memory : ℕ) (levels : List Level) (at : ℕ) (level : Level) → at < length levels → get_or levels at level ≡ level →
    serves level.serves side ≡ true → stages side memory (drop at levels) ≡ level.latency ∷ stages side memory (drop (at + 1) levels)
served-stages side memory levels at level low is served = rw (drop_more levels at level low, is, served) refl

pub passed-stages : (side : Side) (memory : ℕ) (levels : List Level) (at : ℕ) (level : Level) → at < length levels → get_or levels at level ≡ level →
    serves level.serves side ≡ false → stages side memory (drop at levels) ≡ stages side memory (drop (at + 1) levels)
passed-stages side memory levels at level low is passed = rw (drop_more levels at level low, is, passed) refl

-- The item of a number above 0 is the one before it in the rest.
pub later-item : (x : ℕ) (xs : List ℕ) (n : ℕ) → (n ≡ 0 → ⊥) → get_or xs (n - 1) 0 ≡ get_or (x ∷ xs) n 0
later-item x xs zero some = absurd (some refl)
later-item x xs (suc n) some =
    let same : suc n - 1 ≡ n = omega arith in
    ap (λ m. get_or xs m 0) same
