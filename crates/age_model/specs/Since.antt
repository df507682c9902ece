-- What was touched since the last touch of a block. The touches of one cache set stand with the last one first.
use Rattle.std.specs.Prelude.{ℕ, ◌==◌, if◌then◌else◌, List, [], ◌∷◌}
use Rattle.lru_concrete.specs.Sets.{touched}

-- The blocks that were touched after the last touch of a block; all, if it wasn't touched.
abbrev pub since : (block : ℕ) → List ℕ → List ℕ
since block [] = []
since block (touch ∷ touches) = if touch == block then [] else touch ∷ since block touches

-- What the set holds after these touches.
abbrev pub after_touches : (ways : ℕ) → List ℕ → (touches : List ℕ) → List ℕ
after_touches ways blocks [] = blocks
after_touches ways blocks (touch ∷ touches) = touched ways (after_touches ways blocks touches) touch
