-- What an access does to upper ages.
use Rattle.std.specs.Prelude.{ℕ}
use Rattle.age_model.specs.Ages.{oldest}
use Rattle.age_model.specs.Candidates.{blocks_of}
use Rattle.age_model.specs.declared.candidates.Candidates.{Candidates}
use Rattle.domain_laws.specs.Maps.{with_value}
use Rattle.must_domain.specs.Changes.{all_changed, grown, touched_entry}
use Rattle.must_domain.specs.States.{Uppers, age_of}

-- A touch of a block that takes place.
abbrev pub sured : (block : ℕ) → Uppers → Uppers
sured block state = record {
  ways = state.ways;
  ages = all_changed (touched_entry state.ways block (age_of state block)) (with_value block 0 state.ages);
}

-- A touch of any of the candidates, or none.
abbrev pub doubted : Candidates → Uppers → Uppers
doubted candidates state = record {
  ways = state.ways;
  ages = all_changed (grown state.ways (oldest (age_of state) (blocks_of candidates))) state.ages;
}
