-- Walks: paths of a net with the accesses that are made at its places.
use Rattle.std.specs.Prelude.{◌≡◌, ℕ, suc, ◌==◌, ◌<◌, ◌^◌, List, [], ◌∷◌, Option, Some, None, if◌then◌else◌}
use Rattle.flow_net.specs.Numbers.{item_at}
use Rattle.flow_net.specs.declared.net.Access.{Access}
use Rattle.flow_net.specs.declared.net.Net.{Net}
use Rattle.flow_net.specs.declared.net.NetArc.{NetArc}
use Rattle.flow_net.specs.declared.net.Role.{Role}
use Rattle.flow_net.specs.declared.net.Role.TheVariants.{Fetch, Slot, Load, Store}
use Rattle.net_model.specs.Moments.{Makes, Moment, Takes}

-- The numbers of a place's accesses, in their order. The first access of the list has the given number.
abbrev pub numbers_at : (place number : ℕ) → List Access → List ℕ
numbers_at place number [] = []
numbers_at place number (access ∷ more) =
    if access.place == place then number ∷ numbers_at place (suc number) more else numbers_at place (suc number) more

abbrev pub access_numbers : Net → (place : ℕ) → List ℕ
access_numbers net place = numbers_at place 1 net.accesses

-- Which addresses an access may go to: a fetch to that of its instruction, a load or store to any of 32 bits.
abbrev pub MayGoTo : Role → (at address : ℕ) → Type 0
MayGoTo Fetch at address = address ≡ at
MayGoTo Slot at address = address ≡ at
MayGoTo Load at address = address < 2 ^ 32
MayGoTo Store at address = address < 2 ^ 32

abbrev pub IsInReach : Option Access → (address : ℕ) → Type 0
IsInReach None address = ⊥
IsInReach (Some access) address = MayGoTo access.role access.at address

-- The addresses of the accesses of a net as the code alone tells them.
abbrev pub own_range : Net → (access address : ℕ) → Type 0
own_range net access address = IsInReach (item_at access net.accesses) address

-- From a place at which these accesses are left to be made, a walk does these things. All accesses of a place are made
-- in their order before the place is left, each at an address of its range; nothing follows an arc to 0.
abbrev pub WalksOn : Net → (range : ℕ → ℕ → Type 0) → (place : ℕ) → (left : List ℕ) → List Moment → Type 0
WalksOn net range place left [] = Unit {0}
WalksOn net range place left (Takes number ∷ more) =
    (left ≡ []) × ((0 < place) × ((arc : NetArc) × (item_at number net.arcs ≡ Some arc) × (arc.from ≡ place)
    × WalksOn net range arc.to (access_numbers net arc.to) more))
WalksOn net range place left (Makes access address caches hit ∷ more) =
    (later : List ℕ) × (left ≡ access ∷ later) × range access address × WalksOn net range place later more

-- A walk begins with arc 1, or nothing is done yet. Each front of a walk is one: it may stop at any moment.
abbrev pub IsWalk : Net → (range : ℕ → ℕ → Type 0) → List Moment → Type 0
IsWalk net range [] = Unit {0}
IsWalk net range (Makes access address caches hit ∷ more) = ⊥
IsWalk net range (Takes number ∷ more) =
    (number ≡ 1) × ((arc : NetArc) × (item_at 1 net.arcs ≡ Some arc) × (arc.from ≡ 0)
    × WalksOn net range arc.to (access_numbers net arc.to) more)
