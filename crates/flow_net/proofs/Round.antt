-- The scopes round a place: they are those that hold it, each inside those before it.
use Rattle.std.proofs.Common.{◌≡◌, ℕ, ◌-◌, ◌≤◌, ◌↔◌, ◌==◌, Bool, true, false, List, [], ◌∷◌, length, get_or, All, AllPairs, Contains, Option, Some, None, zero, suc, refl, sym, ◌∙◌, subst, inl, inr, arith, true≢false}
use Rattle.std.specs.Bool.{OnTrue, OnFalse}
use Rattle.std.proofs.lemmas.Bool.{OnTrue_at, OnFalse_at}
use Rattle.std.proofs.lemmas.Bool.Decides.{Decides-eqb}
use Rattle.std.proofs.lemmas.List.Elements.{Contains-append_left, Contains-get_or, Contains-push, Contains-push_cases}
use Rattle.std.proofs.lemmas.List.Quantifiers.{all_pairs_push}
use Rattle.std.proofs.lemmas.Map.Made.{is_member-Decides}
use Rattle.std.proofs.lemmas.Option.{none-some}
use Rattle.flow_net.specs.Numbers.{item_at, IsNumberOf, IsNumberOrZero}
use Rattle.flow_net.specs.Scopes.{after_outer, AreRound, HasScopes, Holds, holds_of, IsInside, IsWithin, scopes_of, scopes_round, scopes_to}
use Rattle.flow_net.specs.Scopes.IsWithin.{here, out}
use Rattle.flow_net.specs.declared.net.LoopInst.{LoopInst}
use Rattle.flow_net.specs.declared.net.Net.{Net}
use Rattle.flow_net.specs.declared.net.Place.{Place}
use Rattle.flow_net.proofs.Chains.{chains-short, IsShort, within-zero}
use Rattle.flow_net.proofs.Holds.{holds-place}
use Rattle.flow_net.proofs.Numbers.{item_at-all, item_at-there}

nothing_in : (n : ℕ) → Contains [] n → ⊥
nothing_in n (at, less, same) = omega (arith, less)

only_in : (n m : ℕ) → Contains (n ∷ []) m → m ≡ n
only_in n m among =
    elim (Contains-push_cases [] n m among) as (λ _. m ≡ n) [
      | inl none ↦ absurd (nothing_in m none)
      | inr same ↦ sym same
    ]

-- A number without an item is 0.
none_zero : (loops : List LoopInst) (scope : ℕ) → IsNumberOrZero loops scope →
    item_at scope loops ≡ None → scope ≡ 0
none_zero loops zero inside e = refl
none_zero loops (suc below) inside e =
    absurd (none-some _ (sym e ∙ item_at-there loops (suc below)
    (record { header = 0; bound = 0; outer = 0 })
    (record { from_one = omega arith; within = inside })))

-- ---- Listed scopes are round the scope.
module _ (loops : List LoopInst) (numbers : All (λ inst. IsNumberOrZero loops inst.outer) loops)
    (chains : IsShort loops) (run : (scope : ℕ) → IsNumberOrZero loops scope → IsWithin loops 0 scope) where
  outer_in : (scope : ℕ) (inst : LoopInst) → item_at scope loops ≡ Some inst → IsNumberOrZero loops inst.outer
  outer_in scope inst there = item_at-all (λ i. IsNumberOrZero loops i.outer) loops scope inst numbers there

  run_only : (outer scope : ℕ) → IsNumberOrZero loops scope → Contains (0 ∷ []) outer → IsWithin loops outer scope
  run_only outer scope inside among =
      subst (λ (o : ℕ). IsWithin loops o scope) (sym (only_in 0 outer among)) (run scope inside)

  listed_next : (steps outer scope : ℕ) → IsNumberOrZero loops scope → (found : Option LoopInst) →
      item_at scope loops ≡ found →
      ((inst : LoopInst) → found ≡ Some inst → Contains (scopes_to loops steps inst.outer) outer →
      IsWithin loops outer inst.outer) →
      Contains (after_outer (scopes_to loops steps) scope found) outer → IsWithin loops outer scope
  listed_next steps outer scope inside None e next among = run_only outer scope inside among
  listed_next steps outer scope inside (Some inst) e next among =
      elim (Contains-push_cases (scopes_to loops steps inst.outer) scope outer among)
      as (λ _. IsWithin loops outer scope) [
        | inl before ↦ out scope inst e (next inst refl before)
        | inr same ↦ subst (λ (o : ℕ). IsWithin loops o scope) same here
      ]

  listed-within : (steps outer scope : ℕ) → IsNumberOrZero loops scope →
      Contains (scopes_to loops steps scope) outer → IsWithin loops outer scope
  listed-within zero outer scope inside among = run_only outer scope inside among
  listed-within (suc steps) outer scope inside among =
      listed_next steps outer scope inside (item_at scope loops) refl
      (λ inst there before. listed-within steps outer inst.outer (outer_in scope inst there) before)
      among

  -- ---- And those round the scope are listed.
  here_next : (steps scope : ℕ) → IsNumberOrZero loops scope → (found : Option LoopInst) →
      item_at scope loops ≡ found → Contains (after_outer (scopes_to loops steps) scope found) scope
  here_next steps scope inside None e =
      subst (Contains (0 ∷ [])) (sym (none_zero loops scope inside e)) (Contains-push [] 0)
  here_next steps scope inside (Some inst) e = Contains-push (scopes_to loops steps inst.outer) scope

  here-listed : (steps scope : ℕ) → IsNumberOrZero loops scope → chains.depth scope ≤ steps →
      Contains (scopes_to loops steps scope) scope
  here-listed (suc steps) scope inside small = here_next steps scope inside (item_at scope loops) refl
  here-listed zero zero inside small = Contains-push [] 0
  here-listed zero (suc below) inside small =
      let there = item_at-there loops (suc below) (record { header = 0; bound = 0; outer = 0 })
      (record { from_one = omega arith; within = inside }) in
      absurd (omega (arith, chains.falls (suc below) _ there, small))

  within-listed : (outer scope : ℕ) → IsWithin loops outer scope → (steps : ℕ) → IsNumberOrZero loops scope →
      chains.depth scope ≤ steps → Contains (scopes_to loops steps scope) outer
  within-listed outer _ here steps inside small = here-listed steps outer inside small
  within-listed outer _ (out scope inst there w) zero inside small =
      absurd (omega (arith, chains.falls scope inst there, small))
  within-listed outer _ (out scope inst there w) (suc steps) inside small =
      subst (λ (found : Option LoopInst). Contains (after_outer (scopes_to loops steps) scope found) outer) (sym there)
      (Contains-append_left (scopes_to loops steps inst.outer) (scope ∷ []) outer
      (within-listed outer inst.outer w steps (outer_in scope inst there)
      (omega (arith, chains.falls scope inst there, small))))

  -- ---- Each is inside those before it.
  one_pairs : AllPairs (IsInside loops) (0 ∷ [])
  one_pairs i j d less within = absurd (omega (arith, less, within))

  inward_next : (steps scope : ℕ) → (found : Option LoopInst) → item_at scope loops ≡ found →
      ((inst : LoopInst) → found ≡ Some inst → AllPairs (IsInside loops) (scopes_to loops steps inst.outer)) →
      AllPairs (IsInside loops) (after_outer (scopes_to loops steps) scope found)
  inward_next steps scope None e before = one_pairs
  inward_next steps scope (Some inst) e before =
      all_pairs_push (IsInside loops) (scopes_to loops steps inst.outer) scope (before inst refl)
      (λ k d less. record {
        inst = inst;
        there = e;
        within = listed-within steps (get_or (scopes_to loops steps inst.outer) k d) inst.outer
            (outer_in scope inst e) (Contains-get_or (scopes_to loops steps inst.outer) k d less);
      })

  inward-listed : (steps scope : ℕ) → AllPairs (IsInside loops) (scopes_to loops steps scope)
  inward-listed zero scope = one_pairs
  inward-listed (suc steps) scope =
      inward_next steps scope (item_at scope loops) refl (λ inst there. inward-listed steps inst.outer)

-- ---- The scopes round a place.
no_pairs : (loops : List LoopInst) → AllPairs (IsInside loops) []
no_pairs loops i j d less within = absurd (omega (arith, within))

round_at : (net : Net) → HasScopes net → (number : ℕ) (found : Option Place) →
    item_at number net.places ≡ found → AreRound net number (scopes_of net.loops found)
round_at net scopes number None e =
    record {
      held = λ scope. (
        λ among. absurd (nothing_in scope among),
        λ holds. absurd (none-some holds.place (sym e ∙ holds.there)),
      );
      inward = no_pairs net.loops;
    }
round_at net scopes number (Some place) e =
    let loops = net.loops in
    let chains = chains-short loops scopes.loops scopes.chains in
    let run : (scope : ℕ) → IsNumberOrZero loops scope → IsWithin loops 0 scope =
    within-zero loops scopes.loops scopes.chains in
    let inside = item_at-all (λ p. IsNumberOrZero loops p.scope) net.places number place scopes.places e in
    record {
      held = λ scope. (
        λ among. record {
          place = place;
          there = e;
          within = listed-within loops scopes.loops chains run (length loops) scope place.scope inside among;
        },
        λ holds. within-listed loops scopes.loops chains run scope place.scope
            (holds-place net scope number place e holds) (length loops) inside (chains.small place.scope inside),
      );
      inward = inward-listed loops scopes.loops chains run (length loops) place.scope;
    }

pub scopes-round : (net : Net) → HasScopes net → (place : ℕ) → AreRound net place (scopes_round net place)
scopes-round net scopes place = round_at net scopes place (item_at place net.places) refl

-- The test tells which scopes hold which places.
pub holds_of-tells : (net : Net) → HasScopes net → (scope place : ℕ) →
    (holds_of net scope place ≡ true) ↔ Holds net scope place
holds_of-tells net scopes scope place =
    let tells = is_member-Decides {eq = λ one other. one == other} Decides-eqb (scopes_round net place) scope in
    let round = (scopes-round net scopes place).held scope in
    (λ e. round.0 (tells.0 e), λ held. tells.1 (round.1 held))

-- A test of the place's innermost scope that tells the same is this one.
pub holds_of-is : (net : Net) → HasScopes net → (scope number : ℕ) (place : Place) →
    item_at number net.places ≡ Some place → (test : Bool) → OnTrue test (IsWithin net.loops scope place.scope) →
    OnFalse test (IsWithin net.loops scope place.scope → ⊥) → test ≡ holds_of net scope number
holds_of-is net scopes scope number place there test within apart = by test refl (holds_of net scope number) refl
  where
    tells : (holds_of net scope number ≡ true) ↔ Holds net scope number
    tells = holds_of-tells net scopes scope number

    by : (t : Bool) → test ≡ t → (u : Bool) → holds_of net scope number ≡ u → test ≡ holds_of net scope number
    by true e true f = e ∙ sym f
    by true e false f =
        let held : Holds net scope number = record { place = place; there = there; within = OnTrue_at e within } in
        absurd (true≢false (sym (tells.1 held) ∙ f))
    by false e true f =
        absurd (OnFalse_at e apart (holds-place net scope number place there (tells.0 f)))
    by false e false f = e ∙ sym f

-- The same of the tables that an index reads.
pub holds_of-read : (net : Net) (scope number : ℕ) (places : List Place) (loops : List LoopInst) (test : Bool) →
    HasScopes net → IsNumberOf net.places number → places ≡ net.places → loops ≡ net.loops →
    OnTrue test (IsWithin loops scope (get_or places (number - 1) (record { context = 0; address = 0; scope = 0 })).scope) →
    OnFalse test
    (IsWithin loops scope (get_or places (number - 1) (record { context = 0; address = 0; scope = 0 })).scope → ⊥) →
    test ≡ holds_of net scope number
holds_of-read net scope number places loops test scopes inside same alike within apart =
    holds_of-is net scopes scope number
    (get_or net.places (number - 1) (record { context = 0; address = 0; scope = 0 }))
    (item_at-there net.places number (record { context = 0; address = 0; scope = 0 }) inside)
    test (rw (sym same, sym alike) within) (rw (sym same, sym alike) apart)
