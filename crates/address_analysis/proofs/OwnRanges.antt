-- The own addresses of an access lie in its own range.
use Rattle.std.proofs.Common.{◌≡◌, ℕ, zero, suc, ◌<◌, ◌≤◌, ◌-◌, ◌^◌, ◌%◌, List, [], ◌∷◌, map, Option, Some, None, refl, sym, subst, arith}
use Rattle.flow_net.specs.Numbers.{item_at}
use Rattle.flow_net.specs.declared.net.Access.{Access}
use Rattle.flow_net.specs.declared.net.Net.{Net}
use Rattle.flow_net.specs.declared.net.Role.{Role}
use Rattle.flow_net.specs.declared.net.Role.TheVariants.{Fetch, Slot, Load, Store}
use Rattle.net_model.specs.Walks.{IsInReach, MayGoTo, own_range}
use Rattle.value_domain.specs.Spans.{Holds, Span, everything, single}
use Rattle.value_domain.proofs.Wholes.{holds_everything, holds_single}
use Rattle.address_analysis.specs.Ranges.{holds_some, in_range, own_span, role_span}
use Rattle.address_analysis.specs.declared.ranges.Ranges.{Ranges}

role-holds : (role : Role) (at address : ℕ) → MayGoTo role at address → Holds (role_span role at) address
role-holds Fetch at address same = subst (λ (n : ℕ). Holds (single at) n) (sym same) (holds_single at)
role-holds Slot at address same = subst (λ (n : ℕ). Holds (single at) n) (sym same) (holds_single at)
role-holds Load at address low = holds_everything address low
role-holds Store at address low = holds_everything address low

item-holds : (accesses : List Access) (number address : ℕ) → IsInReach (item_at number accesses) address →
    holds_some (item_at number (map own_span accesses)) address
item-holds [] zero address reach = absurd reach
item-holds [] (suc n) address reach = absurd reach
item-holds (access ∷ more) zero address reach = absurd reach
item-holds (access ∷ more) (suc zero) address reach = role-holds access.role access.at address reach
item-holds (access ∷ more) (suc (suc n)) address reach = item-holds more (suc n) address reach

pub own-held : (net : Net) (ranges : Ranges) → ranges.rows ≡ map own_span net.accesses → (access address : ℕ) →
    own_range net access address → in_range ranges access address
own-held net ranges same access address reach =
    subst (λ (rows : List Span). holds_some (item_at access rows) address) (sym same)
    (item-holds net.accesses access address reach)
