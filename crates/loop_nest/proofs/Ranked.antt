-- Functions whose units have ranks: ranks rise along all arcs but back arcs, and back arcs can be told.
use Rattle.std.proofs.Common.{◌≡◌, ℕ, ◌<◌, List, [], ◌∷◌, arith}
use Rattle.elf_mips.specs.declared.image.Image.{Image}
use Rattle.net_model.specs.Functions.{IsReached}
use Rattle.net_model.specs.Loops.{HasRanks, IsForwardWay, IsInBody}
use Rattle.loop_nest.proofs.Dominance.{body-header, body-reached, goes-reached, header-reached}
use Rattle.loop_nest.proofs.ForwardWays.{AreToldApart, forward-body}
use Rattle.loop_nest.proofs.HeaderRank.{rank-along}

-- The ranks rise along all arcs but back arcs, and of each arc it is told whether it is one.
pub record IsRanked (image : Image) (entry : ℕ) : Type 0 where
  pub ranks : HasRanks image entry
  pub told : AreToldApart image entry

-- Each other unit of a body has a greater rank than its header.
strict-along : (image : Image) (entry : ℕ) (ranks : HasRanks image entry) (header address : ℕ) (way : List ℕ) → IsReached image entry header →
    IsForwardWay image entry header way address → (header ≡ address → ⊥) → ranks.rank header < ranks.rank address
strict-along image entry ranks header address [] reached way differ = absurd (differ way)
strict-along image entry ranks header address (later ∷ more) reached way differ =
    let rise = ranks.rises header later reached way.0 in
    let rest = rank-along image entry ranks more later address (goes-reached image entry header later reached way.0.goes) way.1 in
    omega (arith, rise, rest)

pub inner-rank : (image : Image) (entry : ℕ) (ranks : HasRanks image entry) → AreToldApart image entry → (header address : ℕ) →
    IsInBody image entry header address → (header ≡ address → ⊥) → ranks.rank header < ranks.rank address
inner-rank image entry ranks told header address body differ =
    let way = forward-body image entry told header address (body-reached image entry header address body) body in
    strict-along image entry ranks header address way.0
    (header-reached image entry header (body-header image entry header address body)) way.1 differ
