-- What an access does to lower ages.
use Rattle.std.specs.Prelude.{ℕ, ◌==◌, if◌then◌else◌, Bool, true, ◌&&◌, is_some, List, [], ◌∷◌, Option, Some, None}
use Rattle.age_model.specs.Ages.{grown_up_to}
use Rattle.age_model.specs.Candidates.{blocks_of}
use Rattle.age_model.specs.declared.candidates.Candidates.{Candidates}
use Rattle.domain_laws.specs.Maps.{value_at, with_value}
use Rattle.lru_concrete.specs.Sets.{is_in}
use Rattle.may_domain.specs.Changes.{all_changed}
use Rattle.may_domain.specs.States.{Lowers, age_of}

-- The block has a name then, with the bound that it had.
abbrev pub named : (block : ℕ) → Lowers → Lowers
named block state = record state { ages = with_value block (age_of state block) state.ages }

-- The touched block gets the age 0, and the bounds that were at most its own grow.
abbrev pub touched_entry : (ways block limit : ℕ) → ℕ × ℕ → ℕ
touched_entry ways block limit entry = if entry.0 == block then 0 else grown_up_to ways entry.1 limit

-- A touch of a block that takes place. The shared bound grows like all others.
abbrev pub sured : (block : ℕ) → Lowers → Lowers
sured block state = record {
  ways = state.ways;
  shared = grown_up_to state.ways state.shared (age_of state block);
  ages = all_changed (touched_entry state.ways block (age_of state block)) (with_value block 0 state.ages);
}

-- Whether each of the blocks is named.
abbrev pub all_named : List (ℕ × ℕ) → List ℕ → Bool
all_named ages [] = true
all_named ages (block ∷ blocks) = is_some (value_at block ages) && all_named ages blocks

-- The bound of a candidate is 0 then, and the shared bound is 0 if some candidate has no name.
abbrev pub doubted_entry : (candidates : List ℕ) → ℕ × ℕ → ℕ
doubted_entry candidates entry = if is_in candidates entry.0 then 0 else entry.1

abbrev pub doubted_shared : (candidates : List ℕ) → Lowers → ℕ
doubted_shared candidates state = if all_named state.ages candidates then state.shared else 0

-- The block has a name and the age 0 then.
abbrev pub made_young : (block : ℕ) → Lowers → Lowers
made_young block state = record state { ages = with_value block 0 state.ages }

-- A touch of any of the candidates, or none. A single candidate gets a name.
abbrev pub doubted_blocks : (candidates : List ℕ) → Lowers → Lowers
doubted_blocks [] state = state
doubted_blocks (block ∷ []) state = made_young block state
doubted_blocks (block ∷ other ∷ blocks) state = record {
  ways = state.ways;
  shared = doubted_shared (block ∷ other ∷ blocks) state;
  ages = all_changed (doubted_entry (block ∷ other ∷ blocks)) state.ages;
}

abbrev pub doubted : Candidates → Lowers → Lowers
doubted candidates state = doubted_blocks (blocks_of candidates) state

-- Lower ages after such a touch: each named candidate gets the age 0, and so does each block without a name if some
-- candidate has none. A single candidate alone gets the age 0.
abbrev pub reset_age : (candidates : List ℕ) → Lowers → (block : ℕ) → Option ℕ → ℕ
reset_age candidates state block (Some age) = if is_in candidates block then 0 else age
reset_age candidates state block None = doubted_shared candidates state

abbrev pub doubtful_lower : (candidates : List ℕ) → Lowers → (block : ℕ) → ℕ
doubtful_lower [] state block = age_of state block
doubtful_lower (one ∷ []) state block = if block == one then 0 else age_of state block
doubtful_lower (one ∷ other ∷ blocks) state block =
    reset_age (one ∷ other ∷ blocks) state block (value_at block state.ages)
