-- Ranks that rise along all arcs but back arcs: the header has the least of its body, and no cycle is without a back
-- arc.
use Rattle.std.proofs.Common.{◌≡◌, ℕ, ◌<◌, ◌≤◌, List, [], ◌∷◌, ap, arith}
use Rattle.elf_mips.specs.declared.image.Image.{Image}
use Rattle.net_model.specs.Functions.{IsReached}
use Rattle.net_model.specs.Loops.{HasRanks, IsForwardWay, IsInBody, IsIrreducible}
use Rattle.loop_nest.proofs.Dominance.{body-header, body-reached, goes-reached, header-reached}
use Rattle.loop_nest.proofs.ForwardWays.{AreToldApart, forward-body}

-- Ranks never fall along a forward way.
pub rank-along : (image : Image) (entry : ℕ) (ranks : HasRanks image entry) (way : List ℕ) (from to : ℕ) → IsReached image entry from →
    IsForwardWay image entry from way to → ranks.rank from ≤ ranks.rank to
rank-along image entry ranks [] from to reached same =
    let equal : ranks.rank from ≡ ranks.rank to = ap ranks.rank same in omega (arith, equal)
rank-along image entry ranks (later ∷ more) from to reached forward =
    let rise : ranks.rank from < ranks.rank later = ranks.rises from later reached forward.0 in
    let rest : ranks.rank later ≤ ranks.rank to =
    rank-along image entry ranks more later to (goes-reached image entry from later reached forward.0.goes) forward.1 in
    omega (arith, rise, rest)

-- The header has the least rank of its body.
pub header-rank : (image : Image) (entry : ℕ) (ranks : HasRanks image entry) → AreToldApart image entry → (header address : ℕ) →
    IsInBody image entry header address → ranks.rank header ≤ ranks.rank address
header-rank image entry ranks told header address body =
    let way = forward-body image entry told header address (body-reached image entry header address body) body in
    rank-along image entry ranks way.0 header address
    (header-reached image entry header (body-header image entry header address body)) way.1

-- Where there are ranks, no unit lies on a cycle without back arcs.
pub ranks-reducible : (image : Image) (entry : ℕ) → HasRanks image entry → (address : ℕ) → IsIrreducible image entry address → ⊥
ranks-reducible image entry ranks address cycle =
    let rise : ranks.rank address < ranks.rank cycle.later = ranks.rises address cycle.later cycle.reached cycle.begins in
    let rest : ranks.rank cycle.later ≤ ranks.rank address =
    rank-along image entry ranks cycle.more cycle.later address
    (goes-reached image entry address cycle.later cycle.reached cycle.begins.goes) cycle.back in
    omega (arith, rise, rest)
