-- Two blocks of one set are lawful.
use Rattle.std.proofs.Common.{rules, ◌≡◌, ◌≤◌, ℕ, zero, suc, true, List, [], ◌∷◌, length, get_or, refl, sym, arith}
use Rattle.std.proofs.lemmas.Bool.{both_ways}
use Rattle.link_table.specs.Items.{is_in, AreApart}
use Rattle.lru_concrete.specs.declared.level.Shape.{Shape}
use Rattle.lru_concrete.specs.Contents.{IsLawful, set_in}
use Rattle.lru_concrete.proofs.tests.seven_and_nine.Goals as goal

abbrev two : List (List ℕ)
two = (7 ∷ 9 ∷ []) ∷ []

lawful-two : (shape : Shape) (blocks : List (List ℕ)) → shape.sets ≡ 1 → shape.ways ≡ 2 → blocks ≡ two → IsLawful shape blocks
lawful-two shape blocks sets ways e = rw e (record {
  count = sym sets;
  few = few_at;
  apart = apart_at;
  own = own_at;
})
  where
    few_at : (set : ℕ) → length (get_or two set []) ≤ shape.ways
    few_at zero = rw ways (omega arith)
    few_at (suc set) = omega arith

    apart_at : (set : ℕ) → AreApart (get_or two set [])
    apart_at zero = (refl, (refl, tt))
    apart_at (suc set) = tt

    own_at : (set block : ℕ) → is_in (get_or two set []) block ≡ true → set_in shape block ≡ set
    own_at zero block h = rw sets (omega arith)
    own_at (suc set) block h = absurd (both_ways _ refl h)

pub holding-requires : goal.holding-requires
holding-requires c = lawful-two c.pair.result _ c.pair.ensures.sets c.pair.ensures.ways (search rules)
