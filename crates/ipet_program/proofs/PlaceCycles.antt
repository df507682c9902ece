-- What a place costs whenever it is come to: its unit by itself, and the first stages of the accesses that are made
-- there.
use Rattle.std.proofs.Common.{◌≡◌, ℕ, zero, suc, ◌+◌, ◌<◌, ◌≤◌, List, [], ◌∷◌, ◌++◌, length, Option, Some, None, refl, sym, ap, ◌∙◌, subst, arith}
use Rattle.std.specs.Prelude.{sum_by}
use Rattle.std.proofs.lemmas.List.Sums.{sum_by-cons}
use Rattle.std.proofs.lemmas.Option.{none-some}
use Rattle.cache_config.specs.Instructions.{Costs, costs_of}
use Rattle.cache_config.specs.declared.profile.Profile.{Profile}
use Rattle.elf_mips.specs.declared.image.Image.{Image}
use Rattle.flow_net.specs.Nested.{IsNested}
use Rattle.flow_net.specs.Numbers.{item_at, IsNumberOf}
use Rattle.flow_net.specs.Paths.{IsPath, IsRunPath}
use Rattle.flow_net.specs.declared.net.Access.{Access}
use Rattle.flow_net.specs.declared.net.Net.{Net}
use Rattle.flow_net.specs.declared.net.NetArc.{NetArc}
use Rattle.flow_net.specs.declared.net.Place.{Place}
use Rattle.flow_net.proofs.Numbers.{item_at-all, item_at-same, item_at-there}
use Rattle.ipet_program.specs.Costs.{content_cost, first_stage, first_stages}
use Rattle.ipet_program.specs.Counts.{arc_cost, path_cost}
use Rattle.ipet_program.specs.Programs.{place_price, price_at}
use Rattle.ipet_program.specs.Walked.{content_own, own_at, place_own}
use Rattle.net_model.specs.Accesses.{accesses_from, content_accesses, unit_accesses}
use Rattle.net_model.specs.Moments.{Makes, Moment, Takes, arcs_of}
use Rattle.net_model.specs.Net.{HasUnits, IsUnitOf}
use Rattle.net_model.specs.Targets.{unit_at}
use Rattle.net_model.specs.Units.{content_at}
use Rattle.net_model.specs.Walks.{IsWalk, WalksOn, access_numbers, numbers_at}
use Rattle.net_model.specs.declared.unit.Content.{Content}
use Rattle.net_model.specs.declared.unit.Content.TheVariants.{Unit as Stands}
use Rattle.net_model.proofs.Contents.{unit-content}
use Rattle.net_model.proofs.UnitAccesses.{numbers_from, place-accesses}
use Rattle.ipet_program.proofs.MomentCycles.{first_by, first_spent}
use Rattle.ipet_program.proofs.PlaceAccesses.{AllIn, IsMadeAt, made-at}
use Rattle.ipet_program.proofs.Placed.{AreAt, are-at, are-back, are-front, are-moved}

-- The latencies of the first stages of these accesses, by their numbers.
abbrev pub firsts_of : Net → Costs → List ℕ → ℕ
firsts_of net costs numbers = sum_by (λ (number : ℕ). first_by costs (item_at number net.accesses)) numbers

abbrev pub place_firsts : Net → Costs → (place : ℕ) → ℕ
place_firsts net costs place = firsts_of net costs (access_numbers net place)

numbered-firsts : (net : Net) (costs : Costs) (number : ℕ) (part : List Access) → AreAt (λ n. item_at n net.accesses) number part →
    firsts_of net costs (numbers_from number part) ≡ first_stages costs part
numbered-firsts net costs number [] at = refl
numbered-firsts net costs number (access ∷ more) at =
    let rest = numbered-firsts net costs (suc number) more at.1 in
    let left = sum_by-cons (λ (n : ℕ). first_by costs (item_at n net.accesses)) number (numbers_from (suc number) more) in
    let right = sum_by-cons (first_stage costs) access more in
    let first : first_by costs (item_at number net.accesses) ≡ first_stage costs access = ap (first_by costs) at.0 in
    omega (arith, rest, left, right, first)

module _ (net : Net) (nested : IsNested net) where
  -- Where no place is, no access is made.
  nobody : (place : ℕ) → item_at place net.places ≡ None → (numbers : List ℕ) → AllIn (IsMadeAt net place) numbers → numbers ≡ []
  nobody place none [] all = refl
  nobody place none (number ∷ more) all =
      let made : IsMadeAt net place number = all.0 in
      let within : IsNumberOf net.places made.0.place =
      item_at-all (λ (a : Access). IsNumberOf net.places a.place) net.accesses number made.0 nested.numbers.accesses made.1 in
      let d : Place = record { context = 0; address = 0; scope = 0 } in
      let there = item_at-there net.places place d (subst (IsNumberOf net.places) made.2 within) in
      absurd (none-some _ (sym none ∙ there))

  module _ (profile : Profile) (image : Image) (all : net.accesses ≡ accesses_from image 1 net.places) (units : HasUnits image net) where
    abbrev costs : Costs
    costs = costs_of profile

    some-price : (number : ℕ) (place : Place) → item_at number net.places ≡ Some place →
        place_price profile image net number ≡ place_own profile image net number + place_firsts net costs number
    some-price zero place there = absurd (none-some place there)
    some-price (suc index) place there =
        let is : IsUnitOf image place = item_at-all (IsUnitOf image) net.places (suc index) place units there in
        let content : content_at image place.address ≡ Stands is.unit =
        unit-content image place.address is.unit is.stands in
        let part = place-accesses image 1 1 net.places index place (suc index) there (omega arith) in
        let own : List Access = unit_accesses (suc index) is.unit place.address in
        let mine : content_accesses (suc index) (unit_at image place.address) place.address ≡ own =
        ap (λ (c : Content). content_accesses (suc index) c place.address) is.stands in
        let whole : net.accesses ≡ part.front ++ (own ++ part.back) =
        all ∙ part.whole ∙ ap (λ (l : List Access). part.front ++ (l ++ part.back)) mine in
        let numbers : access_numbers net (suc index) ≡ numbers_from (1 + length part.front) own =
        ap (numbers_at (suc index) 1) all ∙ part.numbers ∙ ap (numbers_from (1 + length part.front)) mine in
        let at_number : ℕ → Option Access = λ n. item_at n net.accesses in
        let stands : AreAt at_number (1 + length part.front) own =
        are-front at_number (1 + length part.front) own part.back
        (are-back at_number 1 part.front (own ++ part.back)
        (subst (AreAt at_number 1) whole (are-at net.accesses))) in
        let firsts : place_firsts net costs (suc index) ≡ first_stages costs own =
        ap (firsts_of net costs) numbers ∙ numbered-firsts net costs (1 + length part.front) own stands in
        let price = ap (price_at profile image (suc index)) there
        ∙ ap (λ (c : Content). content_cost costs (suc index) c place.address) content in
        let by_itself = ap (own_at profile image) there ∙ ap (content_own costs) content in
        omega (arith, firsts, price, by_itself)

    price-at : (number : ℕ) (found : Option Place) → item_at number net.places ≡ found →
        place_price profile image net number ≡ place_own profile image net number + place_firsts net costs number
    price-at number (Some place) there = some-price number place there
    price-at number None none =
        let price = ap (price_at profile image number) none in
        let own = ap (own_at profile image) none in
        let empty = nobody number none (access_numbers net number) (made-at net number) in
        let firsts : place_firsts net costs number ≡ 0 = ap (firsts_of net costs) empty in
        omega (arith, price, own, firsts)

    price-parts : (number : ℕ) →
        place_price profile image net number ≡ place_own profile image net number + place_firsts net costs number
    price-parts number = price-at number (item_at number net.places) refl

    arc-parts : (found : Option NetArc) → arc_cost (place_price profile image net) found
        ≡ arc_cost (place_own profile image net) found + arc_cost (place_firsts net costs) found
    arc-parts None = refl
    arc-parts (Some arc) = price-parts arc.to

    -- The cost of a path is that of its units by themselves and of the first stages of the accesses at its places.
    pub path-parts : (numbers : List ℕ) → path_cost (place_price profile image net) net.arcs numbers
        ≡ path_cost (place_own profile image net) net.arcs numbers + path_cost (place_firsts net costs) net.arcs numbers
    path-parts [] = refl
    path-parts (number ∷ more) =
        let rest = path-parts more in
        let found = item_at number net.arcs in
        let price = sum_by-cons (λ (n : ℕ). arc_cost (place_price profile image net) (item_at n net.arcs)) number more in
        let own = sum_by-cons (λ (n : ℕ). arc_cost (place_own profile image net) (item_at n net.arcs)) number more in
        let firsts = sum_by-cons (λ (n : ℕ). arc_cost (place_firsts net costs) (item_at n net.arcs)) number more in
        let first = arc-parts (item_at number net.arcs) in
        omega (arith, rest, price, own, firsts, first)

  -- ---- A walk that ends outside makes all accesses of the places that it comes to.
  module _ (range : ℕ → ℕ → Type 0) (costs : Costs) where
    firsts-on : (later : List Moment) (place : ℕ) (left : List ℕ) → AllIn (IsMadeAt net place) left → WalksOn net range place left later →
        IsPath net.arcs place (arcs_of later) 0 →
        sum_by (first_spent net costs) later ≡ firsts_of net costs left + path_cost (place_firsts net costs) net.arcs (arcs_of later)
    firsts-on [] place left own on path =
        let none : item_at place net.places ≡ None = ap (λ (n : ℕ). item_at n net.places) path in
        let empty : firsts_of net costs left ≡ 0 = ap (firsts_of net costs) (nobody place none left own) in
        omega (arith, empty)
    firsts-on (Takes number ∷ more) place left own on path =
        let arc = on.1.1.0 in
        let same : path.1.0 ≡ arc = item_at-same net.arcs number path.1.0 arc path.1.1 on.1.1.1 in
        let onward : IsPath net.arcs arc.to (arcs_of more) 0 =
        subst (λ (a : NetArc). IsPath net.arcs a.to (arcs_of more) 0) same path.1.3 in
        let rest = firsts-on more arc.to (access_numbers net arc.to) (made-at net arc.to) on.1.1.3 onward in
        let sum = sum_by-cons (first_spent net costs) (Takes number) more in
        let cost = sum_by-cons (λ (n : ℕ). arc_cost (place_firsts net costs) (item_at n net.arcs)) number (arcs_of more) in
        let first : arc_cost (place_firsts net costs) (item_at number net.arcs) ≡ place_firsts net costs arc.to =
        ap (arc_cost (place_firsts net costs)) on.1.1.1 in
        let empty : firsts_of net costs left ≡ 0 = ap (firsts_of net costs) on.0 in
        omega (arith, rest, sum, cost, first, empty)
    firsts-on (Makes access address caches hit ∷ more) place left own on path =
        let rest = firsts-on more place on.0 (subst (AllIn (IsMadeAt net place)) on.1 own).1 on.3 path in
        let sum = sum_by-cons (first_spent net costs) (Makes access address caches hit) more in
        let made : firsts_of net costs left ≡ first_by costs (item_at access net.accesses) + firsts_of net costs on.0 =
        ap (firsts_of net costs) on.1 ∙ sum_by-cons (λ (n : ℕ). first_by costs (item_at n net.accesses)) access on.0 in
        omega (arith, rest, sum, made)

    pub walk-firsts : (moments : List Moment) → IsWalk net range moments → IsRunPath net.arcs (arcs_of moments) 0 →
        sum_by (first_spent net costs) moments ≡ path_cost (place_firsts net costs) net.arcs (arcs_of moments)
    walk-firsts [] walk path = absurd path
    walk-firsts (Makes access address caches hit ∷ more) walk path = absurd walk
    walk-firsts (Takes number ∷ more) walk path =
        let arc = walk.1.0 in
        let there : item_at number net.arcs ≡ Some arc = ap (λ (n : ℕ). item_at n net.arcs) walk.0 ∙ walk.1.1 in
        let same : path.1.0 ≡ arc = item_at-same net.arcs number path.1.0 arc path.1.1 there in
        let onward : IsPath net.arcs arc.to (arcs_of more) 0 =
        subst (λ (a : NetArc). IsPath net.arcs a.to (arcs_of more) 0) same path.1.3 in
        let rest = firsts-on more arc.to (access_numbers net arc.to) (made-at net arc.to) walk.1.3 onward in
        let sum = sum_by-cons (first_spent net costs) (Takes number) more in
        let cost = sum_by-cons (λ (n : ℕ). arc_cost (place_firsts net costs) (item_at n net.arcs)) number (arcs_of more) in
        let first : arc_cost (place_firsts net costs) (item_at number net.arcs) ≡ place_firsts net costs arc.to =
        ap (arc_cost (place_firsts net costs)) there in
        omega (arith, rest, sum, cost, first)
