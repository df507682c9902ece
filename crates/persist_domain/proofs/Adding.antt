-- What is among the conflicts after one more block.
use Rattle.std.proofs.Common.{◌≡◌, ℕ, zero, suc, ◌+◌, ◌<◌, ◌≤◌, ◌^◌, Bool, true, false, cond, List, [], ◌∷◌, length, Option, Some, None, refl, sym, ap, ◌∙◌, subst, inl, inr, arith}
use Rattle.std.specs.Prelude.{◌==◌, ◌||◌, nat_lt}
use Rattle.std.proofs.lemmas.Bool.{cases_Bool, cases_eq, cases_lt, cases_order, eq-eqb, ne_eqb, false≢true}
use Rattle.std.proofs.lemmas.Bool.Decides.{nat_tests}
use Rattle.domain_laws.specs.Laws.{IsLatticeOn}
use Rattle.domain_laws.specs.SetLaws.{capped_lattice, climbs_put, put_before, put_here, put_past}
use Rattle.domain_laws.specs.Sets.{AreFew, Climbs, IsCapped, Limited, added, capped, capped_joined, capped_leq, put, with_item}
use Rattle.domain_laws.specs.Shapes.Shape.{plain}
use Rattle.lru_concrete.specs.Sets.{is_in}
use Rattle.persist_domain.specs.States.{holds_in}

in-first : (x c : ℕ) (xs : List ℕ) → x ≡ c → is_in (x ∷ xs) c ≡ true
in-first x c xs e = ap (λ (b : Bool). b || is_in xs c) (eq-eqb x c e)

pub in-later : (x c : ℕ) (xs : List ℕ) → is_in xs c ≡ true → is_in (x ∷ xs) c ≡ true
in-later x c xs there = elim (cases_Bool (x == c)) as (λ _. is_in (x ∷ xs) c ≡ true) [
  | inl e ↦ ap (λ (b : Bool). b || is_in xs c) e
  | inr e ↦ ap (λ (b : Bool). b || is_in xs c) e ∙ there
]

-- A block that is put into a set is there, and all others stay.
in-put : (c : ℕ) (xs : List ℕ) → is_in (put c xs) c ≡ true
in-put c [] = in-first c c [] refl
in-put c (x ∷ xs) = elim (cases_order c x) as (λ _. is_in (put c (x ∷ xs)) c ≡ true) [
  | inl e ↦ ap (λ (l : List ℕ). is_in l c) (put_here c x xs e) ∙ in-first x c xs (sym e)
  | inr (inl less) ↦ ap (λ (l : List ℕ). is_in l c) (put_before c x xs less) ∙ in-first c c (x ∷ xs) refl
  | inr (inr more) ↦ ap (λ (l : List ℕ). is_in l c) (put_past c x xs more) ∙ in-later x c (put c xs) (in-put c xs)
]

stays-put : (c b : ℕ) (xs : List ℕ) → is_in xs b ≡ true → is_in (put c xs) b ≡ true
stays-put c b [] there = absurd (false≢true there)
stays-put c b (x ∷ xs) there = elim (cases_order c x) as (λ _. is_in (put c (x ∷ xs)) b ≡ true) [
  | inl e ↦ ap (λ (l : List ℕ). is_in l b) (put_here c x xs e) ∙ there
  | inr (inl less) ↦ ap (λ (l : List ℕ). is_in l b) (put_before c x xs less) ∙ in-later c b (x ∷ xs) there
  | inr (inr more) ↦ ap (λ (l : List ℕ). is_in l b) (put_past c x xs more) ∙
      (elim (cases_eq x b) as (λ _. is_in (x ∷ put c xs) b ≡ true) [
        | inl e ↦ in-first x b (put c xs) e
        | inr ne ↦ in-later x b (put c xs)
            (stays-put c b xs (sym (ap (λ (t : Bool). t || is_in xs b) (ne_eqb x b ne)) ∙ there))
      ])
]

holds-capped : (limit b : ℕ) (xs : List ℕ) → is_in xs b ≡ true → holds_in (capped limit xs) b ≡ true
holds-capped limit b xs there = elim (cases_Bool (nat_lt (length xs) limit)) as (λ _. holds_in (capped limit xs) b ≡ true) [
  | inl e ↦ ap (λ (t : Bool). holds_in (cond t (Some xs) None) b) e ∙ there
  | inr e ↦ ap (λ (t : Bool). holds_in (cond t (Some xs) None) b) e
]

pub holds-new : (limit c : ℕ) (items : Option (List ℕ)) → holds_in (with_item limit c items) c ≡ true
holds-new limit c None = refl
holds-new limit c (Some xs) = holds-capped limit c (put c xs) (in-put c xs)

pub holds-old : (limit c b : ℕ) (items : Option (List ℕ)) → holds_in items b ≡ true →
    holds_in (with_item limit c items) b ≡ true
holds-old limit c b None there = refl
holds-old limit c b (Some xs) there = holds-capped limit b (put c xs) (stays-put c b xs there)

few-capped : (limit : ℕ) (xs : List ℕ) → Climbs 0 xs → AreFew limit (capped limit xs)
few-capped limit xs climbs = elim (cases_lt (length xs) limit) as (λ _. AreFew limit (capped limit xs)) [
  | inl less ↦ let test : nat_lt (length xs) limit ≡ true = grind (arith, nat_tests, less) in
      subst (λ (t : Bool). AreFew limit (cond t (Some xs) None)) (sym test) (climbs, less)
  | inr more ↦ let test : nat_lt (length xs) limit ≡ false = grind (arith, nat_tests, more) in
      subst (λ (t : Bool). AreFew limit (cond t (Some xs) None)) (sym test) tt
]

few-added : (limit c : ℕ) (items : Option (List ℕ)) → AreFew limit items → AreFew limit (with_item limit c items)
few-added limit c None few = tt
few-added limit c (Some xs) few = few-capped limit (put c xs) (climbs_put 0 c xs few.0 (omega arith))

pub capped-added : (limit c : ℕ) (set : Limited) → IsCapped limit set → IsCapped limit (added c set)
capped-added limit c set is = record {
  same = is.same;
  low = is.low;
  few = subst (λ (n : ℕ). AreFew limit (with_item n c set.items)) (sym is.same) (few-added limit c set.items is.few);
}

-- A set that stays below 1 is full with any block.
some-in : (xs : List ℕ) (c : ℕ) → is_in xs c ≡ true → 0 < length xs
some-in [] c there = absurd (false≢true there)
some-in (x ∷ xs) c there = omega arith

full-by-one : (c : ℕ) (items : Option (List ℕ)) → with_item 1 c items ≡ None
full-by-one c None = refl
full-by-one c (Some xs) =
    let some = some-in (put c xs) c (in-put c xs) in
    let test : nat_lt (length (put c xs)) 1 ≡ false = grind (arith, nat_tests, some) in
    ap (λ (t : Bool). cond t (Some (put c xs)) None) test

-- One more block in both keeps the order.
pub added-rises : (limit c : ℕ) (x y : Limited) → 0 < limit → IsCapped limit x → IsCapped limit y →
    capped_leq x y ≡ true → capped_leq (added c x) (added c y) ≡ true
added-rises limit c x y some p q h = elim (cases_lt 1 limit) as (λ _. capped_leq (added c x) (added c y) ≡ true) [
  | inl more ↦
      let laws : IsLatticeOn (IsCapped limit) capped_leq capped_joined = capped_lattice.on (plain (limit ∷ [])) in
      let one : Limited = record { limit = limit; items = Some (c ∷ []) } in
      let ones : IsCapped limit one = record { same = refl; low = p.low; few = ((omega arith, tt), more) } in
      let kept : IsCapped limit (added c y) = capped-added limit c y q in
      laws.least x one (added c y) p ones kept
      (laws.chain x y (added c y) p q kept h (laws.left y one q ones)) (laws.right y one q ones)
  | inr less ↦
      let single : limit ≡ 1 = omega (arith, some, less) in
      let full : with_item y.limit c y.items ≡ None =
      ap (λ (n : ℕ). with_item n c y.items) (q.same ∙ single) ∙ full-by-one c y.items in
      ap (λ (items : Option (List ℕ)). capped_leq (added c x) (record { limit = y.limit; items = items })) full
]
