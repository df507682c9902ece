-- What a moment spends: the latencies of the first stage and of the further ones of the access that it makes.
use Rattle.std.proofs.Common.{◌≡◌, ℕ, zero, suc, ◌+◌, ◌-◌, ◌<◌, ◌≤◌, ◌==◌, ◌&&◌, Bool, true, false, cond, List, [], ◌∷◌, ◌++◌, length, Option, Some, None, slice_get, refl, sym, ap, ◌∙◌, subst, inl, inr, arith, true≢false}
use Rattle.std.specs.Prelude.{sum_by}
use Rattle.std.specs.List.{AllZip}
use Rattle.std.proofs.lemmas.Bool.Decides.{nat_tests}
use Rattle.std.proofs.lemmas.List.Sums.{sum_by-append, sum_by-cons}
use Rattle.std.proofs.lemmas.Option.{none-some, same_Some}
use Rattle.age_model.specs.Moves.{Moves, latencies_along, moment_latency, side_by, visit_latency, went, went_through}
use Rattle.cache_config.specs.Chains.{side_of}
use Rattle.cache_config.specs.Instructions.{Costs, stage_latency}
use Rattle.flow_net.specs.Numbers.{item_at}
use Rattle.flow_net.specs.declared.letter.ClassTable.{ClassTable}
use Rattle.flow_net.specs.declared.letter.Level2.{Level2}
use Rattle.flow_net.specs.declared.net.Access.{Access}
use Rattle.flow_net.specs.declared.net.Net.{Net}
use Rattle.ipet_program.specs.Costs.{first_stage}
use Rattle.age_model.specs.Classes.{HasRows, IsRowOf, chain_length}
use Rattle.ipet_program.specs.Stages.{further_stages, stage_behind, stages_by, stages_from}
use Rattle.ipet_program.specs.declared.program.Stage.{Stage}
use Rattle.lru_concrete.specs.Chains.{Held, Visited, levels_of}
use Rattle.lru_concrete.specs.declared.level.Level.{Level}
use Rattle.lru_concrete.specs.declared.level.Side.{Side}
use Rattle.lru_concrete.proofs.Kept.{levels-goes}
use Rattle.net_model.specs.Accesses.{kind_of}
use Rattle.net_model.specs.Claims.{misses}
use Rattle.net_model.specs.Moments.{Makes, Moment, Takes}
use Rattle.net_model.specs.Walks.{IsWalk, WalksOn, access_numbers}
use Rattle.ipet_program.proofs.PlaceAccesses.{AllIn, IsMadeAt, made-at}
use Rattle.ipet_program.proofs.StageValues.{stage_spent, stages_spent}
use Rattle.ipet_program.proofs.VisitCycles.{IsVisit, goes-visit, side-spent, spent, stage_of}

-- ---- The stages of one access are its own alone.
module _ (net : Net) (costs : Costs) (access address caches : ℕ) (hit : Bool) where
  abbrev moment : Moment
  moment = Makes access address caches hit

  abbrev at_stage : Access → (before : ℕ) → ℕ
  at_stage own before = stage_of costs (side_of (kind_of own.role)) before

  -- The stages of the access with this number.
  from-own : (number : ℕ) → (access == number) ≡ true → (own : Access) (before level column : ℕ) (entries : List Level2) →
      sum_by (stage_spent moment) (stages_from net costs number own before level column entries)
      ≡ spent caches hit (at_stage own) level entries
  from-own number same own before level column [] = refl
  from-own number same own before level column (entry ∷ more) =
      let stage : Stage = stage_behind net costs number own before level entry in
      let rest = from-own number same own column (suc level) (suc column) more in
      let sum = sum_by-cons (stage_spent moment) stage (stages_from net costs number own column (suc level) (suc column) more) in
      let first : stage_spent moment stage ≡ cond (misses level caches hit) (at_stage own level) 0 =
      ap (λ (b : Bool). cond (b && misses level caches hit) (at_stage own level) 0) same in
      omega (arith, rest, sum, first)

  from-other : (number : ℕ) → (access == number) ≡ false → (own : Access) (before level column : ℕ) (entries : List Level2) →
      sum_by (stage_spent moment) (stages_from net costs number own before level column entries) ≡ 0
  from-other number differ own before level column [] = refl
  from-other number differ own before level column (entry ∷ more) =
      let stage : Stage = stage_behind net costs number own before level entry in
      let rest = from-other number differ own column (suc level) (suc column) more in
      let sum = sum_by-cons (stage_spent moment) stage (stages_from net costs number own column (suc level) (suc column) more) in
      let first : ◌≡◌ {A = ℕ} (stage_spent moment stage) 0 =
      ap (λ (b : Bool). cond (b && misses level caches hit) (at_stage own level) 0) differ in
      omega (arith, rest, sum, first)

  -- Those of later accesses.
  by-later : (number column : ℕ) (accesses : List Access) (rows : List (List Level2)) → access < number →
      sum_by (stage_spent moment) (stages_by net costs number column accesses rows) ≡ 0
  by-later number column [] rows later = refl
  by-later number column (own ∷ accesses) [] later = refl
  by-later number column (own ∷ accesses) (row ∷ rows) later =
      let differ : (access == number) ≡ false = grind (arith, nat_tests, later) in
      let first = from-other number differ own 0 1 column row in
      let rest = by-later (suc number) (column + length row) accesses rows (omega (arith, later)) in
      let sum = sum_by-append (stage_spent moment) (stages_from net costs number own 0 1 column row)
      (stages_by net costs (suc number) (column + length row) accesses rows) in
      omega (arith, first, rest, sum)

  by-own : (number column : ℕ) (accesses : List Access) (rows : List (List Level2)) (k : ℕ) (own : Access) (row : List Level2) →
      access ≡ number + k → slice_get accesses k ≡ Some own → slice_get rows k ≡ Some row →
      sum_by (stage_spent moment) (stages_by net costs number column accesses rows) ≡ spent caches hit (at_stage own) 1 row
  by-own number column [] rows k own row at there listed = absurd (none-some own there)
  by-own number column (first ∷ accesses) [] k own row at there listed = absurd (none-some row listed)
  by-own number column (first ∷ accesses) (items ∷ rows) zero own row at there listed =
      let same : (access == number) ≡ true = (let e : access ≡ number = omega (arith, at) in grind (arith, nat_tests, e)) in
      let mine = from-own number same first 0 1 column items in
      let rest = by-later (suc number) (column + length items) accesses rows (omega (arith, at)) in
      let sum = sum_by-append (stage_spent moment) (stages_from net costs number first 0 1 column items)
      (stages_by net costs (suc number) (column + length items) accesses rows) in
      let one : spent caches hit (at_stage first) 1 items ≡ spent caches hit (at_stage own) 1 row =
      ap (λ (a : Access). spent caches hit (at_stage a) 1 items) (same_Some first own there)
      ∙ ap (λ (l : List Level2). spent caches hit (at_stage own) 1 l) (same_Some items row listed) in
      omega (arith, mine, rest, sum, one)
  by-own number column (first ∷ accesses) (items ∷ rows) (suc k) own row at there listed =
      let differ : (access == number) ≡ false = (let e : number < access = omega (arith, at) in grind (arith, nat_tests, e)) in
      let none = from-other number differ first 0 1 column items in
      let rest = by-own (suc number) (column + length items) accesses rows k own row (omega (arith, at)) there listed in
      let sum = sum_by-append (stage_spent moment) (stages_from net costs number first 0 1 column items)
      (stages_by net costs (suc number) (column + length items) accesses rows) in
      omega (arith, none, rest, sum)

-- ---- The visits of a walk are of the chains of its accesses.
abbrev pub IsVisitIn : Net → List Level → Moment → Type 0
IsVisitIn net levels (Takes arc) = Unit {0}
IsVisitIn net levels (Makes access address caches hit) =
    (own : Access) × (item_at access net.accesses ≡ Some own) × IsVisit (chain_length levels (side_of (kind_of own.role))) caches hit

abbrev pub AreVisitsIn : Net → List Level → List Moment → Type 0
AreVisitsIn net levels [] = Unit {0}
AreVisitsIn net levels (m ∷ more) = IsVisitIn net levels m × AreVisitsIn net levels more

went-visit : (side : Option Side) (address : ℕ) (caches : List Held) →
    IsVisit (chain_length (levels_of caches) side) (went_through side address caches).visit.caches (went_through side address caches).visit.hit
went-visit None address caches = record { few = omega arith; whole = λ e. refl; some = λ e. absurd (true≢false (sym e)) }
went-visit (Some side) address caches = goes-visit side address caches

went-levels : (side : Option Side) (address : ℕ) (caches : List Held) → levels_of (went_through side address caches).after ≡ levels_of caches
went-levels None address caches = refl
went-levels (Some side) address caches = levels-goes side address caches

module _ (net : Net) (range : ℕ → ℕ → Type 0) (levels : List Level) where
  visits-on : (later : List Moment) (place : ℕ) (left : List ℕ) → AllIn (IsMadeAt net place) left → WalksOn net range place left later →
      (caches : List Held) → levels_of caches ≡ levels → Moves net caches later → AreVisitsIn net levels later
  visits-on [] place left own on caches same moves = tt
  visits-on (Takes number ∷ more) place left own on caches same moves =
      let to = on.1.1.0.to in
      (tt, visits-on more to (access_numbers net to) (made-at net to) on.1.1.3 caches same moves)
  visits-on (Makes access address seen hit ∷ more) place left own on caches same moves =
      let mine = subst (AllIn (IsMadeAt net place)) on.1 own in
      let made : IsMadeAt net place access = mine.0 in
      let side : Option Side = side_of (kind_of made.0.role) in
      let gone : went net access address caches ≡ went_through side address caches =
      ap (λ (found : Option Access). went_through (side_by found) address caches) made.1 in
      let visited : (went_through side address caches).visit ≡ record { caches = seen; hit = hit } =
      ap (λ w. w.visit) (sym gone) ∙ moves.0 in
      let is : IsVisit (chain_length (levels_of caches) side) seen hit =
      subst (λ (v : Visited). IsVisit (chain_length (levels_of caches) side) v.caches v.hit) visited (went-visit side address caches) in
      let kept : levels_of (went net access address caches).after ≡ levels =
      ap (λ w. levels_of w.after) gone ∙ went-levels side address caches ∙ same in (
        (made.0, made.1, subst (λ (ls : List Level). IsVisit (chain_length ls side) seen hit) same is),
        visits-on more place on.0 mine.1 on.3 (went net access address caches).after kept moves.1,
      )

  pub walk-visits : (moments : List Moment) → IsWalk net range moments → (caches : List Held) → levels_of caches ≡ levels →
      Moves net caches moments → AreVisitsIn net levels moments
  walk-visits [] walk caches same moves = tt
  walk-visits (Makes access address seen hit ∷ more) walk caches same moves = absurd walk
  walk-visits (Takes number ∷ more) walk caches same moves =
      let to = walk.1.0.to in
      (tt, visits-on more to (access_numbers net to) (made-at net to) walk.1.3 caches same moves)

-- ---- A moment spends the latencies of its visit.
abbrev pub first_by : Costs → Option Access → ℕ
first_by costs None = 0
first_by costs (Some own) = first_stage costs own

abbrev pub first_spent : Net → Costs → Moment → ℕ
first_spent net costs (Takes arc) = 0
first_spent net costs (Makes access address caches hit) = first_by costs (item_at access net.accesses)

row-at : (net : Net) (levels : List Level) (accesses : List Access) (rows : List (List Level2)) → AllZip (IsRowOf net levels) accesses rows →
    (k : ℕ) (own : Access) → slice_get accesses k ≡ Some own →
    (row : List Level2) × (slice_get rows k ≡ Some row) × IsRowOf net levels own row
row-at net levels [] rows zip k own there = absurd (none-some own there)
row-at net levels (first ∷ accesses) [] zip k own there = absurd zip
row-at net levels (first ∷ accesses) (row ∷ rows) zip zero own there =
    (row, refl, subst (λ (a : Access). IsRowOf net levels a row) (same_Some first own there) zip.0)
row-at net levels (first ∷ accesses) (row ∷ rows) zip (suc k) own there = row-at net levels accesses rows zip.1 k own there

module _ (net : Net) (costs : Costs) (classes : ClassTable) (has : HasRows net costs.levels classes) where
  none-taken : (arc : ℕ) (stages : List Stage) → stages_spent stages (Takes arc) ≡ 0
  none-taken arc [] = refl
  none-taken arc (stage ∷ more) =
      let rest = none-taken arc more in
      let sum = sum_by-cons (stage_spent (Takes arc)) stage more in
      omega (arith, rest, sum)

  made-spent : (access address caches : ℕ) (hit : Bool) (own : Access) → item_at access net.accesses ≡ Some own →
      IsVisit (chain_length costs.levels (side_of (kind_of own.role))) caches hit →
      first_spent net costs (Makes access address caches hit) + stages_spent (further_stages net costs classes) (Makes access address caches hit)
      ≡ moment_latency net costs.levels costs.memory (Makes access address caches hit)
  made-spent zero address caches hit own there is = absurd (none-some own there)
  made-spent (suc k) address caches hit own there is =
      let side : Option Side = side_of (kind_of own.role) in
      let row = row-at net costs.levels net.accesses classes.rows has k own there in
      let further = by-own net costs (suc k) address caches hit 1 (suc (length net.arcs)) net.accesses classes.rows k own row.0
      (omega arith) there row.1 in
      let first : first_spent net costs (Makes (suc k) address caches hit) ≡ stage_of costs side 0 = ap (first_by costs) there in
      let whole = side-spent costs side caches hit row.0 row.2.chain is in
      let latency : moment_latency net costs.levels costs.memory (Makes (suc k) address caches hit)
      ≡ visit_latency side costs.levels costs.memory caches hit =
      ap (λ (found : Option Access). visit_latency (side_by found) costs.levels costs.memory caches hit) there in
      omega (arith, further, first, whole, latency)

  pub moment-spent : (m : Moment) → IsVisitIn net costs.levels m →
      first_spent net costs m + stages_spent (further_stages net costs classes) m ≡ moment_latency net costs.levels costs.memory m
  moment-spent (Takes arc) is =
      let none = none-taken arc (further_stages net costs classes) in
      omega (arith, none)
  moment-spent (Makes access address caches hit) is = made-spent access address caches hit is.0 is.1 is.2

  -- So the stages of all accesses together have the latencies of the run.
  pub moments-spent : (moments : List Moment) → AreVisitsIn net costs.levels moments →
      sum_by (first_spent net costs) moments + sum_by (stages_spent (further_stages net costs classes)) moments
      ≡ latencies_along net costs.levels costs.memory moments
  moments-spent [] all = refl
  moments-spent (m ∷ more) all =
      let rest = moments-spent more all.1 in
      let one = moment-spent m all.0 in
      let first = sum_by-cons (first_spent net costs) m more in
      let further = sum_by-cons (stages_spent (further_stages net costs classes)) m more in
      let latency = sum_by-cons (moment_latency net costs.levels costs.memory) m more in
      omega (arith, rest, one, first, further, latency)
