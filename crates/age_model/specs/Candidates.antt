-- The blocks that an access may touch.
use Rattle.std.specs.Prelude.{ℕ, zero, suc, ◌+◌, ◌-◌, ◌/◌, ◌%◌, ◌<◌, ◌≤◌, ◌==◌, Bool, if◌then◌else◌, nat_lt, ◌&&◌, List, [], ◌∷◌}
use Rattle.age_model.specs.declared.candidates.Candidates.{Candidates}

-- There is a candidate, and the next one differs.
pub record AreCandidates (candidates : Candidates) : Type 0 where
  pub some : candidates.first ≤ candidates.last
  pub apart : 0 < candidates.step

-- So many blocks, from a first one on in equal steps.
abbrev pub blocks_from : (first step count : ℕ) → List ℕ
blocks_from first step zero = []
blocks_from first step (suc count) = first ∷ blocks_from (first + step) step count

-- The candidates: the first block and then a block a step, up to the last one.
abbrev pub blocks_of : Candidates → List ℕ
blocks_of candidates =
    blocks_from candidates.first candidates.step (suc ((candidates.last - candidates.first) / candidates.step))

-- The blocks that an access may touch at the addresses low, low + step and so on, up to high, in a cache with lines of
-- this size: all from that of low to that of high, but only each (step / line)-th one where the step is a multiple of
-- the line.
abbrev pub step_of : (line step : ℕ) → ℕ
step_of line step = if nat_lt 0 step && (step % line == 0) then step / line else 1

abbrev pub candidates_of : (line low high step : ℕ) → Candidates
candidates_of line low high step = record {
  first = low / line;
  last = high / line;
  step = step_of line step;
}
