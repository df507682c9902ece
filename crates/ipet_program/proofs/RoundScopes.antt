-- The scopes of a first miss: each holds the place, and is the class's scope or lies inside it.
use Rattle.std.proofs.Common.{◌≡◌, ℕ, zero, suc, ◌+◌, ◌<◌, ◌≤◌, ◌==◌, Bool, true, false, cond, List, [], ◌∷◌, length, get_or, All, AllPairs, Contains, Some, refl, sym, ap, ◌∙◌, subst, inl, inr, arith}
use Rattle.std.proofs.lemmas.Bool.{cases_Bool, eqb-true}
use Rattle.flow_net.specs.Numbers.{item_at, IsNumberOrZero}
use Rattle.flow_net.specs.Scopes.{HasScopes, Holds, IsInside, IsWithin, scopes_round}
use Rattle.flow_net.specs.Scopes.IsWithin.{here, out}
use Rattle.flow_net.specs.declared.net.LoopInst.{LoopInst}
use Rattle.flow_net.specs.declared.net.Net.{Net}
use Rattle.flow_net.proofs.Numbers.{item_at-all}
use Rattle.flow_net.proofs.Round.{scopes-round}
use Rattle.ipet_program.specs.Stages.{from_scope}
use Rattle.ipet_program.proofs.PlaceAccesses.{AllIn}

-- A scope round one of the net is one of the net.
within-number : (loops : List LoopInst) → All (λ inst. IsNumberOrZero loops inst.outer) loops → (outer scope : ℕ) →
    IsWithin loops outer scope → IsNumberOrZero loops scope → IsNumberOrZero loops outer
within-number loops numbers outer _ here number = number
within-number loops numbers outer _ (out scope inst there within) number =
    within-number loops numbers outer inst.outer within
    (item_at-all (λ i. IsNumberOrZero loops i.outer) loops scope inst numbers there)

pub holds-number : (net : Net) → HasScopes net → (scope place : ℕ) → Holds net scope place → IsNumberOrZero net.loops scope
holds-number net scopes scope place held =
    within-number net.loops scopes.loops scope held.place.scope held.within
    (item_at-all (λ p. IsNumberOrZero net.loops p.scope) net.places place held.place scopes.places held.there)

all_in-get : (P : ℕ → Type 0) (items : List ℕ) → ((k : ℕ) → k < length items → P (get_or items k 0)) → AllIn P items
all_in-get P [] each = tt
all_in-get P (x ∷ more) each = (each 0 (omega arith), all_in-get P more (λ k less. each (suc k) (omega (arith, less))))

all_in-more : (P Q : ℕ → Type 0) → ((x : ℕ) → P x → Q x) → (xs : List ℕ) → AllIn P xs → AllIn Q xs
all_in-more P Q f [] all = tt
all_in-more P Q f (x ∷ xs) all = (f x all.0, all_in-more P Q f xs all.1)

-- A listed scope within the given one.
abbrev IsFrom : List LoopInst → (scope : ℕ) → List ℕ → ℕ → Type 0
IsFrom loops scope listed inner = IsWithin loops scope inner × Contains listed inner

contains-later : (x : ℕ) (xs : List ℕ) (y : ℕ) → Contains xs y → Contains (x ∷ xs) y
contains-later x xs y (at, less, same) = (suc at, omega (arith, less), same)

from-within : (loops : List LoopInst) (scope : ℕ) (listed : List ℕ) → AllPairs (IsInside loops) listed →
    AllIn (IsFrom loops scope listed) (from_scope scope listed)
from-within loops scope [] inward = tt
from-within loops scope (own ∷ inner) inward =
    let P : ℕ → Type 0 = IsFrom loops scope (own ∷ inner) in
    elim (cases_Bool (own == scope)) as (λ _. AllIn P (cond (own == scope) (own ∷ inner) (from_scope scope inner))) [
      | inl e ↦
          let same : own ≡ scope = eqb-true own scope e in
          subst (λ (b : Bool). AllIn P (cond b (own ∷ inner) (from_scope scope inner))) (sym e) (
            (subst (λ (s : ℕ). IsWithin loops s own) same here, (0, omega arith, refl)),
            all_in-get P inner (λ k less.
                let inside : IsInside loops own (get_or inner k 0) = inward 0 (suc k) 0 (omega arith) (omega (arith, less)) in (
                  subst (λ (s : ℕ). IsWithin loops s (get_or inner k 0)) same (out (get_or inner k 0) inside.inst inside.there inside.within),
                  contains-later own inner (get_or inner k 0) (among inner k less),
                )),
          )
      | inr e ↦
          subst (λ (b : Bool). AllIn P (cond b (own ∷ inner) (from_scope scope inner))) (sym e)
          (all_in-more (IsFrom loops scope inner) P (λ x from. (from.0, contains-later own inner x from.1)) (from_scope scope inner)
          (from-within loops scope inner (λ i j d less within. inward (suc i) (suc j) d (omega (arith, less)) (omega (arith, within)))))
    ]
  where
    among : (xs : List ℕ) (k : ℕ) → k < length xs → Contains xs (get_or xs k 0)
    among [] k less = absurd (omega (arith, less))
    among (x ∷ xs) zero less = (0, omega arith, refl)
    among (x ∷ xs) (suc k) less = contains-later x xs (get_or xs k 0) (among xs k (omega (arith, less)))

-- The scopes from this one inward that hold the place.
pub record IsRound (net : Net) (place scope inner : ℕ) : Type 0 where
  pub within : IsWithin net.loops scope inner
  pub held : Holds net inner place
  pub number : IsNumberOrZero net.loops inner

pub round-from : (net : Net) → HasScopes net → (place scope : ℕ) →
    AllIn (IsRound net place scope) (from_scope scope (scopes_round net place))
round-from net scopes place scope =
    let round = scopes-round net scopes place in
    all_in-more (IsFrom net.loops scope (scopes_round net place)) (IsRound net place scope)
    (λ inner from. let held : Holds net inner place = (round.held inner).0 from.1 in
    record { within = from.0; held = held; number = holds-number net scopes inner place held })
    (from_scope scope (scopes_round net place)) (from-within net.loops scope (scopes_round net place) round.inward)
