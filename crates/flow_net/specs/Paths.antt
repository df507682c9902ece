-- Paths: arcs that go on from one another.
use Rattle.std.specs.Prelude.{◌≡◌, ℕ, ◌<◌, List, [], ◌∷◌, Some}
use Rattle.flow_net.specs.Numbers.{item_at}
use Rattle.flow_net.specs.declared.net.NetArc.{NetArc}

-- The arcs of these numbers go from one place to another: each begins where the one before it
-- ended. Each begins at a place, so that nothing follows an arc to 0.
abbrev pub IsPath : List NetArc → ℕ → List ℕ → ℕ → Type 0
IsPath arcs from [] to = from ≡ to
IsPath arcs from (number ∷ numbers) to =
    (0 < from) × ((arc : NetArc)
    × (item_at number arcs ≡ Some arc)
    × (arc.from ≡ from)
    × IsPath arcs arc.to numbers to)

-- The path of a run: it begins with arc 1, which comes from 0, and goes on from there.
abbrev pub IsRunPath : List NetArc → List ℕ → ℕ → Type 0
IsRunPath arcs [] to = ⊥
IsRunPath arcs (number ∷ numbers) to =
    (number ≡ 1) × ((arc : NetArc)
    × (item_at number arcs ≡ Some arc)
    × (arc.from ≡ 0)
    × IsPath arcs arc.to numbers to)
