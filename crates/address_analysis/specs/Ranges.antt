-- The ranges of the accesses of a net.
use Rattle.std.specs.Prelude.{◌≡◌, ℕ, Option, Some, None}
use Rattle.flow_net.specs.Numbers.{item_at}
use Rattle.flow_net.specs.declared.net.Access.{Access}
use Rattle.flow_net.specs.declared.net.Role.{Role}
use Rattle.flow_net.specs.declared.net.Role.TheVariants.{Fetch, Slot, Load, Store}
use Rattle.value_domain.specs.Spans.{Holds, Span, everything, single}
use Rattle.address_analysis.specs.declared.ranges.Ranges.{Ranges}

-- A fetch goes to the address of its instruction, a load or store to any one of 32 bits.
abbrev pub role_span : Role → (at : ℕ) → Span
role_span Fetch at = single at
role_span Slot at = single at
role_span Load at = everything
role_span Store at = everything

abbrev pub own_span : Access → Span
own_span access = role_span access.role access.at

-- The address is one of those that the table gives the access of this number.
abbrev pub holds_some : Option Span → (address : ℕ) → Type 0
holds_some None address = ⊥
holds_some (Some span) address = Holds span address

abbrev pub in_range : Ranges → (access address : ℕ) → Type 0
in_range ranges access address = holds_some (item_at access ranges.rows) address
