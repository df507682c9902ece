-- The innermost loop round a unit, as one loop after the other is looked at.
use Rattle.std.proofs.Common.{◌≡◌, ℕ, ◌+◌, ◌<◌, ◌⊎◌, inl, inr, List, slice_get, Contains, Option, Some, None, sym, subst, ◌∙◌, arith}
use Rattle.std.proofs.lemmas.Bool.{cases_lt}
use Rattle.std.proofs.lemmas.List.Elements.{All-contains}
use Rattle.std.proofs.lemmas.Option.{get_or_from_slice_get, same_Some, slice_get_within}
use Rattle.elf_mips.specs.declared.image.Image.{Image}
use Rattle.loop_nest.specs.Nests.{IsLoop, IsNest}
use Rattle.loop_nest.specs.declared.nest.Loop.{Loop}
use Rattle.loop_nest.proofs.Laminar.{inside, laminar}
use Rattle.net_model.specs.Loops.{IsInBody, head}
use Rattle.call_contexts.specs.Around.{IsInner, IsNearest, IsNearestBy, IsRound}

-- The loop of a position of a nest.
pub loop-at : (image : Image) (entry : ℕ) (loops : List Loop) → IsNest image entry loops → (position : ℕ) (one : Loop) →
    slice_get loops position ≡ Some one → IsLoop image entry one
loop-at image entry loops nest position one there =
    subst (IsLoop image entry) (get_or_from_slice_get loops position one one there)
    (nest.each position one (slice_get_within loops position one there))

pub same-loop : (loops : List Loop) (position : ℕ) (a b : Loop) → slice_get loops position ≡ Some a → slice_get loops position ≡ Some b → a ≡ b
same-loop loops position a b one other = same_Some a b (sym one ∙ other)

pub body-of : (image : Image) (entry : ℕ) (one : Loop) → IsLoop image entry one → (address : ℕ) → Contains one.body address →
    IsInBody image entry one.header address
body-of image entry one is address there = All-contains (IsInBody image entry one.header) one.body address is.sound there

round-body : (image : Image) (entry : ℕ) (loops : List Loop) → IsNest image entry loops → (position address : ℕ) (round : IsRound loops position address) →
    IsInBody image entry round.one.header address
round-body image entry loops nest position address round =
    body-of image entry round.one (loop-at image entry loops nest position round.one round.there) address round.held

-- Of the loops up to one more, each is an earlier one or the last one.
last-or : (done position : ℕ) → position < done + 1 → (position < done) ⊎ (position ≡ done)
last-or done position less = elim (cases_lt position done) [
  | inl before ↦ inl before
  | inr most ↦ inr (omega (arith, less, most))
]

-- A loop that isn't round the unit changes nothing.
not-last : (loops : List Loop) (done address position : ℕ) → (IsRound loops done address → ⊥) → IsRound loops position address →
    ((position < done) ⊎ (position ≡ done)) → position < done
not-last loops done address position away round (inl before) = before
not-last loops done address position away round (inr same) =
    absurd (away (subst (λ (p : ℕ). IsRound loops p address) same round))

pub nearest-same : (loops : List Loop) (done address : ℕ) (found : Option ℕ) → (IsRound loops done address → ⊥) → IsNearestBy loops done address found →
    IsNearestBy loops (done + 1) address found
nearest-same loops done address None away nearest = λ position less round.
    nearest position (not-last loops done address position away round (last-or done position less)) round
nearest-same loops done address (Some at) away nearest = record {
  before = let low = nearest.before in omega (arith, low);
  round = nearest.round;
  inner = λ other less one. nearest.inner other (not-last loops done address other away one (last-or done other less)) one;
}

-- A loop holds its own header.
own-held : (image : Image) (entry : ℕ) (loops : List Loop) → IsNest image entry loops → (done address : ℕ) (round : IsRound loops done address) →
    (other : ℕ) (one : IsRound loops other address) → other ≡ done → Contains one.one.body round.one.header
own-held image entry loops nest done address round other one same =
    let is = loop-at image entry loops nest done round.one round.there in
    let equal : round.one ≡ one.one =
    same-loop loops done round.one one.one round.there (subst (λ (p : ℕ). slice_get loops p ≡ Some one.one) same one.there) in
    subst (λ (l : Loop). Contains l.body round.one.header) equal (is.whole round.one.header (head is.headed))

-- The first loop round the unit.
first-inner : (image : Image) (entry : ℕ) (loops : List Loop) → IsNest image entry loops → (done address : ℕ) →
    ((position : ℕ) → position < done → IsRound loops position address → ⊥) → (round : IsRound loops done address) →
    (other : ℕ) (one : IsRound loops other address) → ((other < done) ⊎ (other ≡ done)) → Contains one.one.body round.one.header
first-inner image entry loops nest done address none round other one (inl before) = absurd (none other before one)
first-inner image entry loops nest done address none round other one (inr same) =
    own-held image entry loops nest done address round other one same

nearest-first : (image : Image) (entry : ℕ) (loops : List Loop) → IsNest image entry loops → (done address : ℕ) →
    IsNearestBy loops done address None → IsRound loops done address → IsNearest loops (done + 1) address done
nearest-first image entry loops nest done address none round = record {
  before = omega arith;
  round = round;
  inner = λ other less one. first-inner image entry loops nest done address none round other one (last-or done other less);
}

-- The loop lies in the one that was the innermost so far.
deeper-inner : (image : Image) (entry : ℕ) (loops : List Loop) → IsNest image entry loops → (done address at : ℕ) →
    (nearest : IsNearest loops done address at) → (round : IsRound loops done address) → Contains nearest.round.one.body round.one.header →
    (other : ℕ) (one : IsRound loops other address) → ((other < done) ⊎ (other ≡ done)) → Contains one.one.body round.one.header
deeper-inner image entry loops nest done address at nearest round held other one (inl before) =
    let outer = loop-at image entry loops nest other one.one one.there in
    let middle = loop-at image entry loops nest at nearest.round.one nearest.round.there in
    outer.whole round.one.header
    (inside image entry nearest.round.one.header one.one.header
    (body-of image entry one.one outer nearest.round.one.header (nearest.inner other before one)) round.one.header
    (body-of image entry nearest.round.one middle round.one.header held))
deeper-inner image entry loops nest done address at nearest round held other one (inr same) =
    own-held image entry loops nest done address round other one same

-- The loop lies round the one that was the innermost so far: of two loops that share a unit, one holds the other's
-- header.
outer-body : (image : Image) (entry : ℕ) (loops : List Loop) → IsNest image entry loops → (done address at : ℕ) →
    (nearest : IsNearest loops done address at) → (round : IsRound loops done address) → (Contains nearest.round.one.body round.one.header → ⊥) →
    (round.one.header ≡ nearest.round.one.header)
    ⊎ ((IsInBody image entry nearest.round.one.header round.one.header) ⊎ (IsInBody image entry round.one.header nearest.round.one.header)) →
    Contains round.one.body nearest.round.one.header
outer-body image entry loops nest done address at nearest round apart (inl same) =
    let is = loop-at image entry loops nest done round.one round.there in
    subst (Contains round.one.body) same (is.whole round.one.header (head is.headed))
outer-body image entry loops nest done address at nearest round apart (inr (inl within)) =
    absurd (apart ((loop-at image entry loops nest at nearest.round.one nearest.round.there).whole round.one.header within))
outer-body image entry loops nest done address at nearest round apart (inr (inr around)) =
    (loop-at image entry loops nest done round.one round.there).whole nearest.round.one.header around

still-inner : (loops : List Loop) (done address at : ℕ) → (nearest : IsNearest loops done address at) → (round : IsRound loops done address) →
    Contains round.one.body nearest.round.one.header → (other : ℕ) (one : IsRound loops other address) → ((other < done) ⊎ (other ≡ done)) →
    Contains one.one.body nearest.round.one.header
still-inner loops done address at nearest round held other one (inl before) = nearest.inner other before one
still-inner loops done address at nearest round held other one (inr same) =
    let equal : round.one ≡ one.one =
    same-loop loops done round.one one.one round.there (subst (λ (p : ℕ). slice_get loops p ≡ Some one.one) same one.there) in
    subst (λ (l : Loop). Contains l.body nearest.round.one.header) equal held

nearest-inner : (image : Image) (entry : ℕ) (loops : List Loop) → IsNest image entry loops → (done address at result : ℕ) →
    (nearest : IsNearest loops done address at) → (round : IsRound loops done address) →
    ((result ≡ done) × Contains nearest.round.one.body round.one.header)
    ⊎ ((result ≡ at) × (Contains nearest.round.one.body round.one.header → ⊥)) → IsNearest loops (done + 1) address result
nearest-inner image entry loops nest done address at result nearest round (inl (same, held)) =
    subst (IsNearest loops (done + 1) address) (sym same) (record {
      before = omega arith;
      round = round;
      inner = λ other less one. deeper-inner image entry loops nest done address at nearest round held other one (last-or done other less);
    })
nearest-inner image entry loops nest done address at result nearest round (inr (same, apart)) =
    let held = outer-body image entry loops nest done address at nearest round apart
    (laminar image entry round.one.header nearest.round.one.header address
    (round-body image entry loops nest done address round) (round-body image entry loops nest at address nearest.round)) in
    subst (IsNearest loops (done + 1) address) (sym same) (record {
      before = let low = nearest.before in omega (arith, low);
      round = nearest.round;
      inner = λ other less one. still-inner loops done address at nearest round held other one (last-or done other less);
    })

-- The inner one of the innermost loop so far and of the next one, where that is round the unit.
pub nearest-more : (image : Image) (entry : ℕ) (loops : List Loop) → IsNest image entry loops → (done address : ℕ) (other : Option ℕ) (result : ℕ) →
    IsNearestBy loops done address other → IsRound loops done address → IsInner loops other done result →
    IsNearest loops (done + 1) address result
nearest-more image entry loops nest done address None result nearest round is =
    subst (IsNearest loops (done + 1) address) (sym is) (nearest-first image entry loops nest done address nearest round)
nearest-more image entry loops nest done address (Some at) result nearest round is =
    let outer : is.outer ≡ nearest.round.one = same-loop loops at is.outer nearest.round.one is.there nearest.round.there in
    let one : is.one ≡ round.one = same-loop loops done is.one round.one is.here round.there in
    nearest-inner image entry loops nest done address at result nearest round
    (subst (λ (l : Loop). ((result ≡ done) × Contains l.body round.one.header) ⊎ ((result ≡ at) × (Contains l.body round.one.header → ⊥))) outer
    (subst (λ (l : Loop). ((result ≡ done) × Contains is.outer.body l.header) ⊎ ((result ≡ at) × (Contains is.outer.body l.header → ⊥))) one is.told))
