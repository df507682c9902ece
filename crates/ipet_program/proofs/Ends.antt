-- Numbers of places are those of their rows.
use Rattle.std.proofs.Common.{◌≡◌, ℕ, List, length, All, arith}
use Rattle.std.proofs.lemmas.List.Elements.{All-same, All-weaker}
use Rattle.flow_net.specs.Numbers.{IsNumberOrZero}
use Rattle.flow_net.specs.declared.net.NetArc.{NetArc}
use Rattle.flow_net.specs.declared.net.Place.{Place}
use Rattle.ipet_program.specs.declared.program.Row.{Row}

pub ends-of : (end : NetArc → ℕ) (all arcs : List NetArc) (places : List Place) (rows : List Row) → arcs ≡ all →
    length rows ≡ length places → All (λ arc. IsNumberOrZero places (end arc)) all →
    All (λ arc. IsNumberOrZero rows (end arc)) arcs
ends-of end all arcs places rows same count each =
    All-same (λ arc. IsNumberOrZero rows (end arc)) arcs all same
    (All-weaker (λ arc. IsNumberOrZero places (end arc)) (λ arc. IsNumberOrZero rows (end arc))
    (λ arc h. omega (arith, h, count)) all each)
