-- A visit of a place, which may be the header of its innermost loop.
use Rattle.std.proofs.Common.{◌≡◌, ℕ, zero, suc, ◌-◌, ◌<◌, ◌⊎◌, inl, inr, List, [], ◌∷◌, ◌++◌, length, get_or, Some, refl, ap, sym, subst, ◌∙◌, arith}
use Rattle.std.specs.Prelude.{slice_index, slice_set}
use Rattle.std.proofs.lemmas.Bool.{cases_eq}
use Rattle.std.proofs.lemmas.Option.{none-some}
use Rattle.std.proofs.lemmas.List.{get_or-set_other, get_or-set_same, get_or_read}
use Rattle.flow_net.specs.Nested.{IsNested}
use Rattle.flow_net.specs.Numbers.{IsNumberOf, IsNumberOrZero, item_at}
use Rattle.flow_net.specs.declared.net.LoopInst.{LoopInst}
use Rattle.flow_net.specs.declared.net.Net.{Net}
use Rattle.flow_net.specs.declared.net.Place.{Place}
use Rattle.flow_net.proofs.Headers.{header-scope}
use Rattle.flow_net.proofs.Numbers.{item_at-all, item_at-same, item_at-there, item_at-within}
use Rattle.image_run.specs.declared.turns.Turns.{Turns}
use Rattle.image_run.specs.Turns.{IsNoTurn, IsOver, IsSized, IsTurn, IsVisited, Tracks}
use Rattle.image_run.proofs.Turning.{tracks-over, tracks-past, tracks-turn}

module _ (net : Net) (nested : IsNested net) (n : ℕ) (place : Place) (there : item_at n net.places ≡ Some place) where
  -- A loop whose header the place is is its innermost one.
  own-scope : (scope : ℕ) (inst : LoopInst) → item_at scope net.loops ≡ Some inst → n ≡ inst.header → place.scope ≡ scope
  own-scope scope inst at same =
      header-scope net nested scope inst place at (subst (λ (k : ℕ). item_at k net.places ≡ Some place) same there)

  -- A place that is no header.
  pub visit-past : (before after : Turns) → after.from ≡ n → after.left.items ≡ before.left.items →
      ((inst : LoopInst) → item_at place.scope net.loops ≡ Some inst → n ≡ inst.header → ⊥) → IsVisited net before after n
  visit-past before after from left away visited are = record {
    loops = λ scope inst at.
        let differ : n ≡ inst.header → ⊥ = λ same.
        away inst (subst (λ (k : ℕ). item_at k net.loops ≡ Some inst) (sym (own-scope scope inst at same)) at) same in
        subst (λ (f : ℕ). Tracks net scope inst (visited ++ n ∷ []) f (slice_index after.left.items scope)) (sym from)
        (subst (λ (list : List ℕ). Tracks net scope inst (visited ++ n ∷ []) n (slice_index list scope)) (sym left)
        (tracks-past net scope inst visited before.from (slice_index before.left.items scope) n differ (are.loops scope inst at)));
  }

  module _ (inst : LoopInst) (at : item_at place.scope net.loops ≡ Some inst) (header : n ≡ inst.header) where
    -- The header of a loop that may be visited.
    pub visit-turn : (before after : Turns) (number : ℕ) → IsSized net before → after.from ≡ n →
        after.left.items ≡ slice_set before.left.items place.scope number →
        IsTurn net place.scope inst before.from (slice_index before.left.items place.scope) number → IsVisited net before after n
    visit-turn before after number sized from left turned visited are = record {
      loops = λ scope other there_is.
          subst (λ (f : ℕ). Tracks net scope other (visited ++ n ∷ []) f (slice_index after.left.items scope)) (sym from)
          (subst (λ (list : List ℕ). Tracks net scope other (visited ++ n ∷ []) n (slice_index list scope)) (sym left)
          (by_scope scope other there_is (cases_eq scope place.scope)));
    } where
      within : place.scope < length before.left.items
      within =
          let inside = (item_at-within net.loops place.scope inst at).within in
          let size = sized.size in omega (arith, inside, size)

      by_scope : (scope : ℕ) (other : LoopInst) → item_at scope net.loops ≡ Some other → ((scope ≡ place.scope) ⊎ (scope ≡ place.scope → ⊥)) →
          Tracks net scope other (visited ++ n ∷ []) n (slice_index (slice_set before.left.items place.scope number) scope)
      by_scope scope other is (inl same) =
          let one : other ≡ inst =
          item_at-same net.loops place.scope other inst (subst (λ (k : ℕ). item_at k net.loops ≡ Some other) same is) at in
          let mine : Tracks net place.scope inst (visited ++ n ∷ []) n number =
          tracks-turn net place.scope inst visited before.from (slice_index before.left.items place.scope) n number header turned
          (are.loops place.scope inst at) in
          subst (λ (k : ℕ). Tracks net k other (visited ++ n ∷ []) n (slice_index (slice_set before.left.items place.scope number) k)) (sym same)
          (subst (λ (l : LoopInst). Tracks net place.scope l (visited ++ n ∷ []) n (slice_index (slice_set before.left.items place.scope number) place.scope)) (sym one)
          (subst (λ (k : ℕ). Tracks net place.scope inst (visited ++ n ∷ []) n k)
          (sym (get_or-set_same before.left.items place.scope number 0 within)) mine))
      by_scope scope other is (inr differ) =
          subst (λ (k : ℕ). Tracks net scope other (visited ++ n ∷ []) n k)
          (sym (get_or-set_other before.left.items place.scope scope number 0 differ))
          (tracks-past net scope other visited before.from (slice_index before.left.items scope) n
          (λ same. differ (sym (own-scope scope other is same))) (are.loops scope other is))

    -- One that may not.
    pub visit-over : (before : Turns) → IsNoTurn net place.scope inst before.from (slice_index before.left.items place.scope) →
        IsOver net before n
    visit-over before none visited are keeps =
        tracks-over net place.scope inst visited before.from (slice_index before.left.items place.scope) n header none
        (are.loops place.scope inst at) (keeps place.scope inst at)

-- ---- As the code reads them.
pub place-read : (net : Net) (n : ℕ) (places : List Place) (d : Place) → IsNumberOf net.places n → places ≡ net.places →
    item_at n net.places ≡ Some (get_or places (n - 1) d)
place-read net n places d is same =
    subst (λ (list : List Place). item_at n net.places ≡ Some (get_or list (n - 1) d)) (sym same) (item_at-there net.places n d is)

pub inst-read : (net : Net) (scope : ℕ) (loops : List LoopInst) (d : LoopInst) → IsNumberOrZero net.loops scope → (scope ≡ 0 → ⊥) →
    loops ≡ net.loops → item_at scope net.loops ≡ Some (get_or loops (scope - 1) d)
inst-read net zero loops d is some same = absurd (some refl)
inst-read net (suc k) loops d is some same =
    subst (λ (list : List LoopInst). item_at (suc k) net.loops ≡ Some (get_or list (suc k - 1) d)) (sym same)
    (item_at-there net.loops (suc k) d (record { from_one = omega arith; within = is }))

-- The scope of a place is a number of the net's.
pub scope-number : (net : Net) → IsNested net → (n : ℕ) (place : Place) → item_at n net.places ≡ Some place → IsNumberOrZero net.loops place.scope
scope-number net nested n place there =
    item_at-all (λ (p : Place). IsNumberOrZero net.loops p.scope) net.places n place nested.scopes.places there

-- The run has no header.
pub run-away : (net : Net) (scope n : ℕ) → scope ≡ 0 → (inst : LoopInst) → item_at scope net.loops ≡ Some inst → n ≡ inst.header → ⊥
run-away net scope n none inst at same = none-some inst (subst (λ (k : ℕ). item_at k net.loops ≡ Some inst) none at)

-- Another header.
pub other-away : (net : Net) (scope n : ℕ) (own : LoopInst) → item_at scope net.loops ≡ Some own → (own.header ≡ n → ⊥) →
    (inst : LoopInst) → item_at scope net.loops ≡ Some inst → n ≡ inst.header → ⊥
other-away net scope n own there differ inst at same =
    differ (ap (λ (l : LoopInst). l.header) (item_at-same net.loops scope own inst there at) ∙ sym same)

-- The number of visits left.
pub left-read : (net : Net) (turns : Turns) (scope left : ℕ) → IsSized net turns → IsNumberOrZero net.loops scope →
    left ≡ get_or turns.left.items scope left → left ≡ slice_index turns.left.items scope
left-read net turns scope left sized within same =
    let size = sized.size in
    get_or_read turns.left.items scope left (omega (arith, size, within)) same 0
