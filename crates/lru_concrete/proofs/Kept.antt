-- What an access leaves as it was, the levels of the caches; and caches that hold no blocks.
use Rattle.std.proofs.Common.{◌≡◌, ℕ, Bool, true, false, List, [], ◌∷◌, map, replicate, refl, ap, ap₂}
use Rattle.lru_concrete.specs.declared.level.Level.{Level}
use Rattle.lru_concrete.specs.declared.level.Side.{Side}
use Rattle.lru_concrete.specs.Contents.{Content}
use Rattle.lru_concrete.specs.Chains.{AreOfLevels, Held, Went, empty_of, finds_in, goes, held_of, levels_of, onward, serves, touch_in}

levels-onward : (served found : Bool) (cache changed : Held) (more : List Held) (rest : Went) → changed.level ≡ cache.level →
    levels_of rest.after ≡ levels_of more →
    levels_of (onward served found cache changed more rest).after ≡ levels_of (cache ∷ more)
levels-onward false found cache changed more rest same kept = ap (λ (ls : List Level). cache.level ∷ ls) kept
levels-onward true true cache changed more rest same kept = ap (λ (l : Level). l ∷ levels_of more) same
levels-onward true false cache changed more rest same kept = ap₂ (λ (l : Level) (ls : List Level). l ∷ ls) same kept

-- An access leaves the levels.
pub levels-goes : (side : Side) (address : ℕ) (caches : List Held) → levels_of (goes side address caches).after ≡ levels_of caches
levels-goes side address [] = refl
levels-goes side address (cache ∷ more) =
    levels-onward (serves cache.level.serves side) (finds_in cache address) cache (touch_in cache address) more
    (goes side address more) refl (levels-goes side address more)

-- What a cache of a level is that holds no blocks.
abbrev pub no_blocks : Level → Content
no_blocks level = record { shape = level.shape; blocks = replicate level.shape.sets [] }

pub are-empty : (levels : List Level) → AreOfLevels levels (map no_blocks levels)
are-empty [] = tt
are-empty (level ∷ levels) = (refl, are-empty levels)

pub held-empty : (levels : List Level) → held_of levels (map no_blocks levels) ≡ map empty_of levels
held-empty [] = refl
held-empty (level ∷ levels) = ap (λ (hs : List Held). empty_of level ∷ hs) (held-empty levels)

pub levels-empty : (levels : List Level) → levels_of (map empty_of levels) ≡ levels
levels-empty [] = refl
levels-empty (level ∷ levels) = ap (λ (ls : List Level). level ∷ ls) (levels-empty levels)
