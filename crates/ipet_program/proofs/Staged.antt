-- The program of a net and its classes is one with further stages: what all stages of a place cost is in the crude bound.
use Rattle.std.proofs.Common.{◌≡◌, ◌⊎◌, ℕ, zero, suc, ◌+◌, ◌*◌, ◌<◌, ◌≤◌, ◌==◌, Bool, true, false, cond, List, [], ◌∷◌, ◌++◌, length, drop, map, All, Option, Some, None, refl, sym, ap, ◌∙◌, subst, inl, inr, arith, mul-le-mul}
use Rattle.std.specs.Prelude.{sum_by, slice_index_or}
use Rattle.std.proofs.lemmas.Bool.{cases_Bool}
use Rattle.std.proofs.lemmas.Bool.Decides.{nat_tests}
use Rattle.std.proofs.lemmas.List.Elements.{All-head, All-tail}
use Rattle.std.proofs.lemmas.List.Sums.{sum_by-append, sum_by-cons}
use Rattle.std.proofs.lemmas.Option.{none-some}
use Rattle.cache_config.specs.Instructions.{Costs, costs_of, stage_latency, stages_of}
use Rattle.cache_config.specs.declared.profile.Profile.{Profile}
use Rattle.elf_mips.specs.declared.image.Image.{Image}
use Rattle.flow_net.specs.Nested.{IsNested}
use Rattle.flow_net.specs.Numbers.{item_at, IsNumberOf}
use Rattle.flow_net.specs.declared.letter.ClassTable.{ClassTable}
use Rattle.flow_net.specs.declared.letter.Level2.{Level2}
use Rattle.flow_net.specs.declared.net.Access.{Access}
use Rattle.flow_net.specs.declared.net.Net.{Net}
use Rattle.flow_net.specs.declared.net.Place.{Place}
use Rattle.flow_net.proofs.Numbers.{item_at-all, item_at-there}
use Rattle.ipet_program.specs.Costs.{all_stages, content_cost, content_full, first_stage, first_stages}
use Rattle.ipet_program.specs.Programs.{IsFlowProgram, crude_limit, crude_of, full_at, full_price, place_price, price_at}
use Rattle.ipet_program.specs.Scopes.{turns_at}
use Rattle.ipet_program.specs.Staged.{Follow, IsStagedFor, IsStagedProgram, latencies_at, latency_at}
use Rattle.ipet_program.specs.Stages.{further_stages, stage_behind, stages_by, stages_from}
use Rattle.ipet_program.specs.Sums.{sum_to}
use Rattle.ipet_program.specs.declared.program.Program.{Program}
use Rattle.ipet_program.specs.declared.program.Stage.{Stage}
use Rattle.net_model.specs.Accesses.{accesses_from, content_accesses, kind_of, load_access, unit_accesses}
use Rattle.net_model.specs.Net.{HasUnits, IsUnitOf}
use Rattle.net_model.specs.Targets.{unit_at}
use Rattle.net_model.specs.Units.{content_at}
use Rattle.net_model.specs.declared.unit.Content.{Content}
use Rattle.net_model.specs.declared.unit.Content.TheVariants.{Unit as Stands}
use Rattle.net_model.specs.Walks.{access_numbers, numbers_at}
use Rattle.net_model.proofs.Contents.{unit-content}
use Rattle.net_model.proofs.UnitAccesses.{numbers_from, place-accesses}
use Rattle.ipet_program.proofs.Placed.{AreAt, are-at, are-back, are-front}

-- ---- A list from a position on, summed.
abbrev total : List ℕ → ℕ
total xs = sum_by (λ (x : ℕ). x) xs

total-drop : (xs : List ℕ) (k : ℕ) → slice_index_or xs k 0 + total (drop (suc k) xs) ≡ total (drop k xs)
total-drop [] zero = refl
total-drop [] (suc k) = refl
total-drop (x ∷ xs) zero = sym (sum_by-cons (λ (y : ℕ). y) x xs)
total-drop (x ∷ xs) (suc k) = total-drop xs k

-- The latencies of the stages of an access but the first one.
abbrev rest_stages : Costs → Access → ℕ
rest_stages costs access = total (drop 1 (stages_of costs (kind_of access.role)))

all-parts : (costs : Costs) (access : Access) → all_stages costs access ≡ first_stage costs access + rest_stages costs access
all-parts costs access = sym (total-drop (stages_of costs (kind_of access.role)) 0)

-- What a place takes of a number that belongs to a place.
abbrev taken : (own place : ℕ) → ℕ → ℕ
taken own place n = cond (own == place) n 0

taken-le : (own place n m : ℕ) → n ≤ m → taken own place n ≤ taken own place m
taken-le own place n m le = elim (cases_Bool (own == place)) as (λ _. taken own place n ≤ taken own place m) [
  | inl e ↦ subst (λ (b : Bool). cond b n 0 ≤ cond b m 0) (sym e) le
  | inr e ↦ subst (λ (b : Bool). cond b n 0 ≤ cond b m 0) (sym e) (omega arith)
]

taken-add : (own place n m : ℕ) → taken own place n + taken own place m ≡ taken own place (n + m)
taken-add own place n m = elim (cases_Bool (own == place)) as (λ _. taken own place n + taken own place m ≡ taken own place (n + m)) [
  | inl e ↦ subst (λ (b : Bool). cond b n 0 + cond b m 0 ≡ cond b (n + m) 0) (sym e) refl
  | inr e ↦ subst (λ (b : Bool). cond b n 0 + cond b m 0 ≡ cond b (n + m) 0) (sym e) refl
]

-- ---- The stages of an access, of all accesses.
module _ (net : Net) (costs : Costs) (place : ℕ) where
  abbrev rest_at : Access → ℕ
  rest_at access = taken access.place place (rest_stages costs access)

  from-low : (number : ℕ) (access : Access) (before level column : ℕ) (row : List Level2) →
      latencies_at (stages_from net costs number access before level column row) place
      ≤ taken access.place place (total (drop level (stages_of costs (kind_of access.role))))
  from-low number access before level column [] = omega arith
  from-low number access before level column (entry ∷ more) =
      let xs : List ℕ = stages_of costs (kind_of access.role) in
      let stage : Stage = stage_behind net costs number access before level entry in
      let rest = from-low number access column (suc level) (suc column) more in
      let sum = sum_by-cons (latency_at place) stage
      (stages_from net costs number access column (suc level) (suc column) more) in
      let here = taken-add access.place place (slice_index_or xs level 0) (total (drop (suc level) xs)) in
      let whole : taken access.place place (slice_index_or xs level 0 + total (drop (suc level) xs))
      ≡ taken access.place place (total (drop level xs)) = ap (taken access.place place) (total-drop xs level) in
      omega (arith, rest, sum, here, whole)

  by-low : (number column : ℕ) (accesses : List Access) (rows : List (List Level2)) →
      latencies_at (stages_by net costs number column accesses rows) place ≤ sum_by rest_at accesses
  by-low number column [] rows = omega arith
  by-low number column (access ∷ more) [] = omega arith
  by-low number column (access ∷ more) (row ∷ rows) =
      let first : List Stage = stages_from net costs number access 0 1 column row in
      let others : List Stage = stages_by net costs (suc number) (column + length row) more rows in
      let rest = by-low (suc number) (column + length row) more rows in
      let own = from-low number access 0 1 column row in
      let sum = sum_by-append (latency_at place) first others in
      let sums = sum_by-cons rest_at access more in
      omega (arith, rest, own, sum, sums)

  -- The same by the numbers of the accesses of the place.
  abbrev rest_by : Option Access → ℕ
  rest_by None = 0
  rest_by (Some access) = rest_stages costs access

  abbrev rests_of : List ℕ → ℕ
  rests_of numbers = sum_by (λ (number : ℕ). rest_by (item_at number net.accesses)) numbers

  by-numbers : (number : ℕ) (accesses : List Access) → AreAt (λ n. item_at n net.accesses) number accesses →
      sum_by rest_at accesses ≡ rests_of (numbers_at place number accesses)
  by-numbers number [] at = refl
  by-numbers number (access ∷ more) at =
      let later : List ℕ = numbers_at place (suc number) more in
      let rest = by-numbers (suc number) more at.1 in
      let sum = sum_by-cons rest_at access more in
      let cons = sum_by-cons (λ (n : ℕ). rest_by (item_at n net.accesses)) number later in
      let first : rest_by (item_at number net.accesses) ≡ rest_stages costs access = ap rest_by at.0 in
      elim (cases_Bool (access.place == place))
      as (λ _. sum_by rest_at (access ∷ more) ≡ rests_of (cond (access.place == place) (number ∷ later) later)) [
        | inl e ↦
            let own : rest_at access ≡ rest_stages costs access = ap (λ (b : Bool). cond b (rest_stages costs access) 0) e in
            subst (λ (b : Bool). sum_by rest_at (access ∷ more) ≡ rests_of (cond b (number ∷ later) later)) (sym e)
            (omega (arith, rest, sum, cons, first, own))
        | inr e ↦
            let own : ◌≡◌ {A = ℕ} (rest_at access) 0 = ap (λ (b : Bool). cond b (rest_stages costs access) 0) e in
            subst (λ (b : Bool). sum_by rest_at (access ∷ more) ≡ rests_of (cond b (number ∷ later) later)) (sym e)
            (omega (arith, rest, sum, own))
      ]

  numbered-rests : (number : ℕ) (part : List Access) → AreAt (λ n. item_at n net.accesses) number part →
      rests_of (numbers_from number part) ≡ sum_by (rest_stages costs) part
  numbered-rests number [] at = refl
  numbered-rests number (access ∷ more) at =
      let rest = numbered-rests (suc number) more at.1 in
      let left = sum_by-cons (λ (n : ℕ). rest_by (item_at n net.accesses)) number (numbers_from (suc number) more) in
      let right = sum_by-cons (rest_stages costs) access more in
      let first : rest_by (item_at number net.accesses) ≡ rest_stages costs access = ap rest_by at.0 in
      omega (arith, rest, left, right, first)

-- ---- What a unit costs with all stages.
parts-sum : (costs : Costs) (accesses : List Access) →
    sum_by (all_stages costs) accesses ≡ first_stages costs accesses + sum_by (rest_stages costs) accesses
parts-sum costs [] = refl
parts-sum costs (access ∷ more) =
    let rest = parts-sum costs more in
    let all = sum_by-cons (all_stages costs) access more in
    let first = sum_by-cons (first_stage costs) access more in
    let later = sum_by-cons (rest_stages costs) access more in
    let own = all-parts costs access in
    omega (arith, rest, all, first, later, own)

module _ (net : Net) (profile : Profile) (image : Image) (classes : ClassTable) (all : net.accesses ≡ accesses_from image 1 net.places)
    (units : HasUnits image net) where
  abbrev costs : Costs
  costs = costs_of profile

  abbrev stages : List Stage
  stages = further_stages net costs classes

  some-full : (number : ℕ) (place : Place) → item_at number net.places ≡ Some place →
      place_price profile image net number + latencies_at stages number ≤ full_price profile image net number
  some-full zero place there = absurd (none-some place there)
  some-full (suc index) place there =
      let is : IsUnitOf image place = item_at-all (IsUnitOf image) net.places (suc index) place units there in
      let content : content_at image place.address ≡ Stands is.unit = unit-content image place.address is.unit is.stands in
      let part = place-accesses image 1 1 net.places index place (suc index) there (omega arith) in
      let own : List Access = unit_accesses (suc index) is.unit place.address in
      let mine : content_accesses (suc index) (unit_at image place.address) place.address ≡ own =
      ap (λ (c : Content). content_accesses (suc index) c place.address) is.stands in
      let whole : net.accesses ≡ part.front ++ (own ++ part.back) =
      all ∙ part.whole ∙ ap (λ (l : List Access). part.front ++ (l ++ part.back)) mine in
      let numbers : access_numbers net (suc index) ≡ numbers_from (1 + length part.front) own =
      ap (numbers_at (suc index) 1) all ∙ part.numbers ∙ ap (numbers_from (1 + length part.front)) mine in
      let at_number : ℕ → Option Access = λ n. item_at n net.accesses in
      let stands : AreAt at_number (1 + length part.front) own =
      are-front at_number (1 + length part.front) own part.back
      (are-back at_number 1 part.front (own ++ part.back) (subst (AreAt at_number 1) whole (are-at net.accesses))) in
      let rests : sum_by (rest_at net costs (suc index)) net.accesses ≡ sum_by (rest_stages costs) own =
      by-numbers net costs (suc index) 1 net.accesses (are-at net.accesses) ∙ ap (rests_of net costs (suc index)) numbers
      ∙ numbered-rests net costs (suc index) (1 + length part.front) own stands in
      let low = by-low net costs (suc index) 1 (suc (length net.arcs)) net.accesses classes.rows in
      let price = ap (price_at profile image (suc index)) there
      ∙ ap (λ (c : Content). content_cost costs (suc index) c place.address) content in
      let full = ap (full_at profile image (suc index)) there
      ∙ ap (λ (c : Content). content_full costs (suc index) c place.address) content in
      let parts = parts-sum costs own in
      omega (arith, rests, low, price, full, parts)

  sum-low : (n : ℕ) → n ≤ length net.places →
      sum_to n (λ p. (place_price profile image net p + latencies_at stages p) * turns_at net p)
      ≤ sum_to n (λ p. full_price profile image net p * turns_at net p)
  sum-low zero within = omega arith
  sum-low (suc n) within =
      let rest = sum-low n (omega (arith, within)) in
      let d : Place = record { context = 0; address = 0; scope = 0 } in
      let there = item_at-there net.places (suc n) d (record { from_one = omega arith; within = within }) in
      let low = some-full (suc n) _ there in
      let last : (place_price profile image net (suc n) + latencies_at stages (suc n)) * turns_at net (suc n)
      ≤ full_price profile image net (suc n) * turns_at net (suc n) =
      mul-le-mul low (let same : turns_at net (suc n) ≤ turns_at net (suc n) = omega arith in same) in
      omega (arith, rest, last)

  -- ---- The stages in their order.
  from-follow : (number : ℕ) (access : Access) (before level column last : ℕ) (row : List Level2)
      (more : List Stage) → IsNumberOf net.places access.place →
      ((before ≡ 0) ⊎ ((suc before ≡ column) × (access.place ≡ last))) →
      ((other : ℕ) → Follow net (column + length row) other more) →
      Follow net column last (stages_from net costs number access before level column row ++ more)
  from-follow number access before level column last [] more at is then =
      subst (λ (n : ℕ). Follow net n last more) (omega arith) (then last)
  from-follow number access before level column last (entry ∷ row) more at is then =
      let shift : column + length (entry ∷ row) ≡ suc column + length row = omega arith in (
        at,
        is,
        from-follow number access column (suc level) (suc column) access.place row more at
            (inr (refl, refl)) (λ other. subst (λ (n : ℕ). Follow net n other more) shift (then other)),
      )

  by-follow : (number column : ℕ) (accesses : List Access) (rows : List (List Level2)) →
      All (λ (access : Access). IsNumberOf net.places access.place) accesses → (last : ℕ) →
      Follow net column last (stages_by net costs number column accesses rows)
  by-follow number column [] rows at last = tt
  by-follow number column (access ∷ more) [] at last = tt
  by-follow number column (access ∷ more) (row ∷ rows) at last =
      from-follow number access 0 1 column last row (stages_by net costs (suc number) (column + length row) more rows)
      (All-head (λ (a : Access). IsNumberOf net.places a.place) access more at) (inl refl)
      (λ other. by-follow (suc number) (column + length row) more rows
      (All-tail (λ (a : Access). IsNumberOf net.places a.place) access more at) other)

pub flow-staged : (net : Net) (classes : ClassTable) (profile : Profile) (image : Image) (program : Program) → IsNested net →
    IsFlowProgram net classes profile image program → IsStagedFor net profile image program
flow-staged net classes profile image program nested is all units =
    let stages : List Stage = further_stages net (costs_of profile) classes in
    record {
      outside = refl;
      columns = is.columns;
      rows = is.rows;
      value = is.value;
      follow = subst (Follow net (suc (length net.arcs)) 0) (sym is.stages)
          (by-follow net profile image classes all units 1 (suc (length net.arcs)) net.accesses classes.rows
          nested.numbers.accesses 0);
      costly = is.costly;
      low =
          let sum = sum-low net profile image classes all units (length net.places) (omega arith) in
          let same = ap (λ (l : List Stage). crude_of net (λ p. place_price profile image net p + latencies_at l p)) is.stages in
          omega (arith, sum, same, is.low);
    }
