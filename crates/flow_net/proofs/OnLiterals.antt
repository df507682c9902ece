-- The definitions on nets that are written out.
use Rattle.std.proofs.Common.{◌≡◌, ℕ, ◌<◌, ◌≤◌, Bool, List, [], ◌∷◌, map, option_map, true, nat_le, length, All, Some, zero, suc, sym, ◌∙◌, ap, subst, arith}
use Rattle.std.proofs.lemmas.Option.{slice_get-map}
use Rattle.std.proofs.lemmas.List.{length-map}
use Rattle.std.proofs.lemmas.List.Elements.{All-weaker}
use Rattle.std.proofs.lemmas.List.Folds.{list_all-map}
use Rattle.std.proofs.lemmas.List.Sums.{AllPass-from_list_all}
use Rattle.std.proofs.lemmas.Bool.Decides.{nat_tests}
use Rattle.std.specs.List.{list_all}
use Rattle.flow_net.specs.Numbers.{item_at}
use Rattle.flow_net.specs.Scopes.{HasScopes}
use Rattle.flow_net.specs.declared.net.Net.{Net}

item_at-map : {A B : Type 0} (f : A → B) (items : List A) (number : ℕ) (item : A) →
    item_at number items ≡ Some item → item_at number (map f items) ≡ Some (f item)
item_at-map f items zero item e = absurd (grind arith)
item_at-map f items (suc position) item e =
    slice_get-map f items position ∙ ap (λ found. option_map f found) e

-- What a test tells of each item of a list that is written out.
pub all_passed : {A : Type 0} (P : A → Type 0) (test : A → Bool) →
    ((item : A) → test item ≡ true → P item) → (items : List A) → list_all test items ≡ true →
    All P items
all_passed P test tells items passed =
    All-weaker (λ item. test item ≡ true) P tells items (AllPass-from_list_all test items passed)

all_of_map : {A : Type 0} (most : ℕ) (f : A → ℕ) (items : List A) →
    list_all (λ n. nat_le n most) (map f items) ≡ true → All (λ item. f item ≤ most) items
all_of_map most f items passed =
    all_passed (λ item. f item ≤ most) (λ item. nat_le (f item) most)
    (λ item h. grind (arith, nat_tests))
    items (sym (list_all-map (λ n. nat_le n most) f items) ∙ passed)

-- In three loops that lie in one another and one beside them the numbers fall on the way outward.
falls_in_three : (scope outer : ℕ) → item_at scope (0 ∷ 1 ∷ 2 ∷ 0 ∷ []) ≡ Some outer → outer < scope
falls_in_three zero outer e = grind arith
falls_in_three (suc zero) outer e = grind arith
falls_in_three (suc (suc zero)) outer e = grind arith
falls_in_three (suc (suc (suc zero))) outer e = grind arith
falls_in_three (suc (suc (suc (suc zero)))) outer e = grind arith
falls_in_three (suc (suc (suc (suc (suc more))))) outer e = grind arith

-- The scopes of the tests' net are lawful.
pub three_and_one : (net : Net) →
    map (λ place. place.scope) net.places ≡ 0 ∷ 1 ∷ 2 ∷ 3 ∷ 4 ∷ 2 ∷ 0 ∷ [] →
    map (λ inst. inst.outer) net.loops ≡ 0 ∷ 1 ∷ 2 ∷ 0 ∷ [] →
    HasScopes net × (length net.places ≡ 7)
three_and_one net scopes outers =
    let loops : length net.loops ≡ 4 =
    sym (length-map net.loops (λ inst. inst.outer)) ∙ ap length outers in (
      record {
        places = subst (λ (n : ℕ). All (λ place. place.scope ≤ n) net.places) (sym loops)
            (all_of_map 4 (λ place. place.scope) net.places (ap (list_all (λ n. nat_le n 4)) scopes));
        loops = subst (λ (n : ℕ). All (λ inst. inst.outer ≤ n) net.loops) (sym loops)
            (all_of_map 4 (λ inst. inst.outer) net.loops (ap (list_all (λ n. nat_le n 4)) outers));
        chains = record {
          depth = λ scope. scope;
          falls = λ scope inst e. falls_in_three scope inst.outer
              (subst (λ (ns : List ℕ). item_at scope ns ≡ Some inst.outer) outers
              (item_at-map (λ i. i.outer) net.loops scope inst e));
        };
      },
      sym (length-map net.places (λ place. place.scope)) ∙ ap length scopes,
    )
