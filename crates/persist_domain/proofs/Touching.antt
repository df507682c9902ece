-- What touches do to the conflicts of a block.
use Rattle.std.proofs.Common.{◌≡◌, ℕ, ◌+◌, ◌-◌, ◌<◌, ◌≤◌, ◌^◌, Bool, true, false, cond, List, [], ◌∷◌, length, Option, Some, None, refl, sym, ap, ◌∙◌, subst, inl, inr, arith}
use Rattle.std.specs.Prelude.{◌==◌, ◌||◌, is_some}
use Rattle.std.proofs.lemmas.Bool.{cases_eq, eq-eqb, ne_eqb, false≢true}
use Rattle.age_model.specs.Candidates.{AreCandidates, blocks_of}
use Rattle.age_model.specs.Since.{after_touches, since}
use Rattle.age_model.specs.declared.candidates.Candidates.{Candidates}
use Rattle.age_model.proofs.Since.{kept-since}
use Rattle.domain_laws.specs.Sets.{IsCapped, Limited, added, capped_leq, with_item}
use Rattle.lru_concrete.specs.Sets.{is_in}
use Rattle.persist_domain.specs.Order.{leq}
use Rattle.persist_domain.specs.States.{Conflicting, Covers, IsConflicting, count_in, holds_in, none_of}
use Rattle.persist_domain.specs.Touches.{sured, with_other, with_others}
use Rattle.persist_domain.proofs.Adding.{added-rises, capped-added, holds-new, holds-old}

-- A touch of the own block, and one of another block.
abbrev pub with_added : ℕ → Conflicting → Conflicting
with_added c state = record state { others = added c state.others }

sured-own : (c : ℕ) (state : Conflicting) → c ≡ state.block → sured c state ≡ none_of state.others.limit state.block
sured-own c state e =
    ap (λ (b : Bool). cond b (none_of state.others.limit state.block) (with_added c state)) (eq-eqb c state.block e)

sured-other : (c : ℕ) (state : Conflicting) → (c ≡ state.block → ⊥) → sured c state ≡ with_added c state
sured-other c state ne =
    ap (λ (b : Bool). cond b (none_of state.others.limit state.block) (with_added c state)) (ne_eqb c state.block ne)

with-own : (c : ℕ) (state : Conflicting) → c ≡ state.block → with_other c state ≡ state
with-own c state e = ap (λ (b : Bool). cond b state (with_added c state)) (eq-eqb c state.block e)

with-new : (c : ℕ) (state : Conflicting) → (c ≡ state.block → ⊥) → with_other c state ≡ with_added c state
with-new c state ne = ap (λ (b : Bool). cond b state (with_added c state)) (ne_eqb c state.block ne)

since-own : (c block : ℕ) (touches : List ℕ) → c ≡ block → since block (c ∷ touches) ≡ []
since-own c block touches e = ap (λ (b : Bool). cond b [] (c ∷ since block touches)) (eq-eqb c block e)

since-other : (c block : ℕ) (touches : List ℕ) → (c ≡ block → ⊥) → since block (c ∷ touches) ≡ c ∷ since block touches
since-other c block touches ne = ap (λ (b : Bool). cond b [] (c ∷ since block touches)) (ne_eqb c block ne)

-- Nothing is asked after a touch of the own block.
covers-own : (c : ℕ) (state : Conflicting) (touches : List ℕ) → c ≡ state.block → Covers state (c ∷ touches)
covers-own c state touches e = record {
  each = λ other among. absurd (false≢true (sym (ap (λ (l : List ℕ). is_in l other) (since-own c state.block touches e)) ∙ among));
}

-- A touch of another block, once it is a conflict.
covers-added : (c : ℕ) (state : Conflicting) (touches : List ℕ) → (c ≡ state.block → ⊥) → Covers state touches →
    Covers (with_added c state) (c ∷ touches)
covers-added c state touches ne covers = record {
  each = λ other among. elim (cases_eq c other)
      as (λ _. holds_in (with_item state.others.limit c state.others.items) other ≡ true) [
        | inl e ↦ subst (λ (b : ℕ). holds_in (with_item state.others.limit c state.others.items) b ≡ true) e
            (holds-new state.others.limit c state.others.items)
        | inr apart ↦ holds-old state.others.limit c other state.others.items (covers.each other
            (sym (ap (λ (l : List ℕ). is_in l other) (since-other c state.block touches ne) ∙
            ap (λ (b : Bool). b || is_in (since state.block touches) other) (ne_eqb c other apart)) ∙ among))
      ];
}

stays-added : (c : ℕ) (state : Conflicting) (touches : List ℕ) → Covers state touches → Covers (with_added c state) touches
stays-added c state touches covers = record {
  each = λ other among. holds-old state.others.limit c other state.others.items (covers.each other among);
}

pub sured-covers : (c : ℕ) (state : Conflicting) (touches : List ℕ) → Covers state touches →
    Covers (sured c state) (c ∷ touches)
sured-covers c state touches covers = elim (cases_eq c state.block) as (λ _. Covers (sured c state) (c ∷ touches)) [
  | inl e ↦ subst (λ (s : Conflicting). Covers s (c ∷ touches)) (sym (sured-own c state e))
      (covers-own c (none_of state.others.limit state.block) touches e)
  | inr ne ↦ subst (λ (s : Conflicting). Covers s (c ∷ touches)) (sym (sured-other c state ne))
      (covers-added c state touches ne covers)
]

with-stays : (c : ℕ) (state : Conflicting) (touches : List ℕ) → Covers state touches → Covers (with_other c state) touches
with-stays c state touches covers = elim (cases_eq c state.block) as (λ _. Covers (with_other c state) touches) [
  | inl e ↦ subst (λ (s : Conflicting). Covers s touches) (sym (with-own c state e)) covers
  | inr ne ↦ subst (λ (s : Conflicting). Covers s touches) (sym (with-new c state ne)) (stays-added c state touches covers)
]

with-covers : (c : ℕ) (state : Conflicting) (touches : List ℕ) → Covers state touches →
    Covers (with_other c state) (c ∷ touches)
with-covers c state touches covers = elim (cases_eq c state.block) as (λ _. Covers (with_other c state) (c ∷ touches)) [
  | inl e ↦ subst (λ (s : Conflicting). Covers s (c ∷ touches)) (sym (with-own c state e)) (covers-own c state touches e)
  | inr ne ↦ subst (λ (s : Conflicting). Covers s (c ∷ touches)) (sym (with-new c state ne))
      (covers-added c state touches ne covers)
]

pub others-stay : (cs : List ℕ) (state : Conflicting) (touches : List ℕ) → Covers state touches →
    Covers (with_others cs state) touches
others-stay [] state touches covers = covers
others-stay (c ∷ cs) state touches covers = others-stay cs (with_other c state) touches (with-stays c state touches covers)

pub others-cover : (cs : List ℕ) (state : Conflicting) (touches : List ℕ) (block : ℕ) → is_in cs block ≡ true →
    Covers state touches → Covers (with_others cs state) (block ∷ touches)
others-cover [] state touches block there covers = absurd (false≢true there)
others-cover (c ∷ cs) state touches block there covers = elim (cases_eq c block)
    as (λ _. Covers (with_others cs (with_other c state)) (block ∷ touches)) [
      | inl e ↦ others-stay cs (with_other c state) (block ∷ touches)
          (subst (λ (b : ℕ). Covers (with_other c state) (b ∷ touches)) e (with-covers c state touches covers))
      | inr ne ↦ others-cover cs (with_other c state) touches block
          (sym (ap (λ (b : Bool). b || is_in cs block) (ne_eqb c block ne)) ∙ there) (with-stays c state touches covers)
    ]

-- The states stay of their block and ways.
is-added : (ways own c : ℕ) (state : Conflicting) → IsConflicting ways own state → IsConflicting ways own (with_added c state)
is-added ways own c state is =
    record { same = is.same; low = is.low; some = is.some; few = capped-added ways c state.others is.few }

is-none : (ways own : ℕ) (state : Conflicting) → IsConflicting ways own state →
    IsConflicting ways own (none_of state.others.limit state.block)
is-none ways own state is = record {
  same = is.same;
  low = is.low;
  some = is.some;
  few = record { same = is.few.same; low = is.few.low; few = (tt, is.some) };
}

pub sured-is : (ways own c : ℕ) (state : Conflicting) → IsConflicting ways own state → IsConflicting ways own (sured c state)
sured-is ways own c state is = elim (cases_eq c state.block) as (λ _. IsConflicting ways own (sured c state)) [
  | inl e ↦ subst (IsConflicting ways own) (sym (sured-own c state e)) (is-none ways own state is)
  | inr ne ↦ subst (IsConflicting ways own) (sym (sured-other c state ne)) (is-added ways own c state is)
]

with-is : (ways own c : ℕ) (state : Conflicting) → IsConflicting ways own state → IsConflicting ways own (with_other c state)
with-is ways own c state is = elim (cases_eq c state.block) as (λ _. IsConflicting ways own (with_other c state)) [
  | inl e ↦ subst (IsConflicting ways own) (sym (with-own c state e)) is
  | inr ne ↦ subst (IsConflicting ways own) (sym (with-new c state ne)) (is-added ways own c state is)
]

pub others-are : (ways own : ℕ) (cs : List ℕ) (state : Conflicting) → IsConflicting ways own state →
    IsConflicting ways own (with_others cs state)
others-are ways own [] state is = is
others-are ways own (c ∷ cs) state is = others-are ways own cs (with_other c state) (with-is ways own c state is)

pub own-is : (ways own : ℕ) (state : Conflicting) → IsConflicting ways own state →
    IsConflicting state.others.limit state.block state
own-is ways own state is = subst (λ (n : ℕ). IsConflicting n state.block state) (sym is.few.same)
    (subst (λ (n : ℕ). IsConflicting ways n state) (sym is.same) is)

-- The outcomes keep the order.
module _ (ways own : ℕ) (x y : Conflicting) (p : IsConflicting ways own x) (q : IsConflicting ways own y)
    (h : leq x y ≡ true) (c : ℕ) where
  added-under : leq (with_added c x) (with_added c y) ≡ true
  added-under = added-rises ways c x.others y.others p.some p.few q.few h

  pub sured-rises : leq (sured c x) (sured c y) ≡ true
  sured-rises = elim (cases_eq c own) as (λ _. leq (sured c x) (sured c y) ≡ true) [
    | inl e ↦
        subst (λ (s : Conflicting). leq s (sured c y) ≡ true) (sym (sured-own c x (e ∙ sym p.same)))
        (subst (λ (s : Conflicting). leq (none_of x.others.limit x.block) s ≡ true) (sym (sured-own c y (e ∙ sym q.same))) refl)
    | inr ne ↦
        subst (λ (s : Conflicting). leq s (sured c y) ≡ true) (sym (sured-other c x (λ e. ne (e ∙ p.same))))
        (subst (λ (s : Conflicting). leq (with_added c x) s ≡ true) (sym (sured-other c y (λ e. ne (e ∙ q.same)))) added-under)
  ]

  pub with-rises : leq (with_other c x) (with_other c y) ≡ true
  with-rises = elim (cases_eq c own) as (λ _. leq (with_other c x) (with_other c y) ≡ true) [
    | inl e ↦
        subst (λ (s : Conflicting). leq s (with_other c y) ≡ true) (sym (with-own c x (e ∙ sym p.same)))
        (subst (λ (s : Conflicting). leq x s ≡ true) (sym (with-own c y (e ∙ sym q.same))) h)
    | inr ne ↦
        subst (λ (s : Conflicting). leq s (with_other c y) ≡ true) (sym (with-new c x (λ e. ne (e ∙ p.same))))
        (subst (λ (s : Conflicting). leq (with_added c x) s ≡ true) (sym (with-new c y (λ e. ne (e ∙ q.same)))) added-under)
  ]

pub others-rise : (ways own : ℕ) (cs : List ℕ) (x y : Conflicting) → IsConflicting ways own x → IsConflicting ways own y →
    leq x y ≡ true → leq (with_others cs x) (with_others cs y) ≡ true
others-rise ways own [] x y p q h = h
others-rise ways own (c ∷ cs) x y p q h =
    others-rise ways own cs (with_other c x) (with_other c y) (with-is ways own c x p) (with-is ways own c y q)
    (with-rises ways own x y p q h c)

-- Full stays full.
with-full : (c : ℕ) (state : Conflicting) → state.others.items ≡ None → with_other c state ≡ state
with-full c state full = elim (cases_eq c state.block) as (λ _. with_other c state ≡ state) [
  | inl e ↦ with-own c state e
  | inr ne ↦ with-new c state ne ∙
      ap (λ (items : Option (List ℕ)). record { block = state.block; others = record { limit = state.others.limit; items = items } })
      (ap (with_item state.others.limit c) full ∙ sym full)
]

pub others-full : (cs : List ℕ) (state : Conflicting) → state.others.items ≡ None → with_others cs state ≡ state
others-full [] state full = refl
others-full (c ∷ cs) state full = ap (with_others cs) (with-full c state full) ∙ others-full cs state full

-- The walk over candidates: those so far are conflicts.
pub record IsWalk (start : Conflicting) (all rest : Candidates) (state : Conflicting) : Type 0 where
  pub candidates : AreCandidates rest
  pub so_far : with_others (blocks_of all) start ≡ with_others (blocks_of rest) state

pub walk-more : (start state next : Conflicting) (all rest more : Candidates) → IsWalk start all rest state →
    next ≡ with_other rest.first state → AreCandidates more → blocks_of rest ≡ rest.first ∷ blocks_of more →
    IsWalk start all more next
walk-more start state next all rest more walk is are split = record {
  candidates = are;
  so_far = walk.so_far ∙ ap (λ (cs : List ℕ). with_others cs state) split ∙ ap (with_others (blocks_of more)) (sym is);
}

pub walk-ends : (start state next : Conflicting) (all rest : Candidates) → IsWalk start all rest state →
    next ≡ with_other rest.first state → blocks_of rest ≡ rest.first ∷ [] → next ≡ with_others (blocks_of all) start
walk-ends start state next all rest walk is last =
    is ∙ sym (walk.so_far ∙ ap (λ (cs : List ℕ). with_others cs state) last)

pub walk-full : (start state : Conflicting) (all rest : Candidates) → IsWalk start all rest state →
    state.others.items ≡ None → state ≡ with_others (blocks_of all) start
walk-full start state all rest walk full = sym (walk.so_far ∙ others-full (blocks_of rest) state full)

-- A block with fewer conflicts than the ways stays in its set.
pub stays-in : (ways : ℕ) (state : Conflicting) (blocks touches : List ℕ) →
    count_in state.others.limit state.others.items < state.others.limit → Covers state touches →
    is_in touches state.block ≡ true → is_in (after_touches state.others.limit blocks touches) state.block ≡ true
stays-in ways state blocks touches few covers there = told state.others.items refl few
  where
    told : (items : Option (List ℕ)) → state.others.items ≡ items → count_in state.others.limit items < state.others.limit →
        is_in (after_touches state.others.limit blocks touches) state.block ≡ true
    told None e less = absurd (omega (arith, less))
    told (Some xs) e less = kept-since state.others.limit xs state.block blocks touches less there
        (λ other among. subst (λ (items : Option (List ℕ)). holds_in items other ≡ true) e (covers.each other among))
