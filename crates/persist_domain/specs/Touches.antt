-- What an access does to the conflicts of a block.
use Rattle.std.specs.Prelude.{ℕ, ◌==◌, if◌then◌else◌, List, [], ◌∷◌}
use Rattle.age_model.specs.Candidates.{blocks_of}
use Rattle.age_model.specs.declared.candidates.Candidates.{Candidates}
use Rattle.domain_laws.specs.Sets.{added}
use Rattle.persist_domain.specs.States.{Conflicting, none_of}

-- Another block than the own one becomes a conflict.
abbrev pub with_other : (block : ℕ) → Conflicting → Conflicting
with_other block state = if block == state.block then state else record state { others = added block state.others }

-- A touch of a block that takes place: that of the own block clears the conflicts.
abbrev pub sured : (block : ℕ) → Conflicting → Conflicting
sured block state =
    if block == state.block then none_of state.others.limit state.block
    else record state { others = added block state.others }

-- Each of some blocks.
abbrev pub with_others : List ℕ → Conflicting → Conflicting
with_others [] state = state
with_others (block ∷ blocks) state = with_others blocks (with_other block state)

-- A touch of any of the candidates, or none.
abbrev pub doubted : Candidates → Conflicting → Conflicting
doubted candidates state = with_others (blocks_of candidates) state
