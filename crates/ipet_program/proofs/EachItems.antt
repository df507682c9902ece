-- Facts of the items of a list by their numbers.
use Rattle.std.proofs.Common.{◌≡◌, ℕ, ◌+◌, ◌<◌, List, length, get_or, All, Some, refl, sym, subst, inl, inr, arith}
use Rattle.std.proofs.lemmas.Bool.{cases_eq}
use Rattle.flow_net.specs.Numbers.{item_at}
use Rattle.flow_net.proofs.Numbers.{item_at-same, item_at-within}
use Rattle.ipet_program.specs.Forward.{EachItem}
use Rattle.ipet_program.proofs.Numbered.{item-read}

pub each-none : {T : Type 0} (P : ℕ → T → Type 0) (items : List T) → EachItem P 0 items
each-none P items number item high there =
    absurd (omega (arith, (item_at-within items number item there).from_one, high))

pub each-next : {T : Type 0} (P : ℕ → T → Type 0) (items : List T) (index : ℕ) (d : T) → index < length items →
    EachItem P index items → P (index + 1) (get_or items index d) → EachItem P (index + 1) items
each-next P items index d within each next number item high there =
    elim (cases_eq number (index + 1)) as (λ _. P number item) [
      | inl e ↦
          let same : item_at (index + 1) items ≡ Some item = subst (λ (n : ℕ). item_at n items ≡ Some item) e there in
          subst (λ (n : ℕ). P n item) (sym e)
          (subst (P (index + 1)) (item_at-same items (index + 1) (get_or items index d) item
          (item-read items items index d refl within) same) next)
      | inr differ ↦ each number item (omega (arith, differ, high)) there
    ]

pub each-of : {T : Type 0} (P : ℕ → T → Type 0) (items : List T) → EachItem P (length items) items →
    (number : ℕ) (item : T) → item_at number items ≡ Some item → P number item
each-of P items each number item there = each number item (item_at-within items number item there).within there

pub each-all : {T : Type 0} (P : T → Type 0) (items : List T) → ((number : ℕ) (item : T) →
    item_at number items ≡ Some item → P item) → All P items
each-all P items each k d within = each (k + 1) (get_or items k d) (item-read items items k d refl within)
