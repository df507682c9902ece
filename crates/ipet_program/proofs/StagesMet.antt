-- The counts of a walk meet the rows of the further stages.
use Rattle.std.proofs.Common.{◌≡◌, ℕ, zero, suc, ◌+◌, ◌-◌, ◌<◌, ◌≤◌, ◌==◌, ◌||◌, Bool, true, false, List, [], ◌∷◌, ◌++◌, length, map, All, Option, Some, None, refl, sym, ap, ap₂, ◌∙◌, subst, inl, inr, arith, append_assoc, true≢false}
use Rattle.std.specs.Prelude.{count_by}
use Rattle.std.specs.List.{AllZip}
use Rattle.std.proofs.lemmas.Bool.Decides.{nat_tests}
use Rattle.std.proofs.lemmas.Int.{ints}
use Rattle.std.proofs.lemmas.List.Elements.{All-append, All-cons, All-nil, All-same}
use lib.IntN.{ℤ, pos, negsuc, ◌-ℤ◌}
use Rattle.cache_config.specs.Instructions.{Costs}
use Rattle.flow_net.specs.Nested.{IsNested}
use Rattle.flow_net.specs.Numbers.{item_at}
use Rattle.flow_net.specs.Scopes.{scopes_round}
use Rattle.flow_net.specs.declared.letter.Class.{Class}
use Rattle.flow_net.specs.declared.letter.Class.TheVariants.{Hit, Miss, First, Unclassified}
use Rattle.flow_net.specs.declared.letter.ClassTable.{ClassTable}
use Rattle.flow_net.specs.declared.letter.Letter.{Letter}
use Rattle.flow_net.specs.declared.letter.Letter.TheVariants.{Always, Never, Uncertain}
use Rattle.flow_net.specs.declared.letter.Level2.{Level2}
use Rattle.flow_net.specs.declared.net.Access.{Access}
use Rattle.flow_net.specs.declared.net.Net.{Net}
use Rattle.net_model.specs.Moments.{Makes, Moment, Takes, arcs_of}
use Rattle.net_model.specs.Claims.{ClassHolds, EachMade, LetterHolds, MissesOnce, misses}
use Rattle.net_model.specs.Walks.{IsWalk}
use Rattle.ipet_program.specs.Counts.{IsMet, counts_of, row_sum}
use Rattle.ipet_program.specs.Rows.{comes_to, one_if, term_of, terms_of}
use Rattle.ipet_program.specs.StageRows.{at_most_arcs, chain_row, enters_by, first_row, rows_for, stage_rows, zero_row, zero_rows}
use Rattle.ipet_program.specs.Stages.{always_hits, firsts_of, from_scope, never_arrives, stage_behind, stages_by, stages_from, stops_at}
use Rattle.age_model.specs.Classes.{TableHolds}
use Rattle.ipet_program.specs.declared.program.Row.{Row}
use Rattle.ipet_program.specs.declared.program.Stage.{Stage}
use Rattle.ipet_program.proofs.Entries.{enters_at, inner-entry, walk-enters}
use Rattle.ipet_program.proofs.Exchange.{IsColumn}
use Rattle.ipet_program.proofs.OnceCounts.{HasEntry, once-counts}
use Rattle.ipet_program.proofs.PlaceAccesses.{AllIn}
use Rattle.ipet_program.proofs.Placed.{AreAt, are-at, are-back, are-front, are-moved}
use Rattle.ipet_program.proofs.RoundScopes.{IsRound, round-from}
use Rattle.ipet_program.proofs.RunCounts.{row-along}
use Rattle.ipet_program.proofs.RunSums.{along}
use Rattle.ipet_program.proofs.StageCounts.{absent-misses, along-count, comes, count-less, counts-stage, is_made, is_miss, made-few, miss-before, miss-made, miss-makes, never-misses}
use Rattle.ipet_program.proofs.Terms.{row_sum-append, row_sum-term}

-- Less the ones of a test, along the arcs.
along-less : (picks : ℕ → Bool) (numbers : List ℕ) →
    along (λ arc. pos 0 -ℤ one_if (picks arc)) numbers ≡ pos 0 -ℤ along (λ arc. one_if (picks arc)) numbers
along-less picks [] = refl
along-less picks (number ∷ more) =
    let rest = along-less picks more in
    omega (arith, ints)

pub length-stages_from : (net : Net) (costs : Costs) (number : ℕ) (access : Access) (before level column : ℕ) (row : List Level2) →
    length (stages_from net costs number access before level column row) ≡ length row
length-stages_from net costs number access before level column [] = refl
length-stages_from net costs number access before level column (entry ∷ more) =
    ap (λ (n : ℕ). suc n) (length-stages_from net costs number access column (suc level) (suc column) more)

stage_rows-append : (net : Net) (column : ℕ) (stages others : List Stage) →
    stage_rows net column (stages ++ others) ≡ stage_rows net column stages ++ stage_rows net (column + length stages) others
stage_rows-append net column [] others = ap (λ (n : ℕ). stage_rows net n others) (omega arith)
stage_rows-append net column (stage ∷ stages) others =
    let shift : suc column + length stages ≡ column + length (stage ∷ stages) = omega arith in
    ap (λ (l : List Row). rows_for net column stage ++ l)
    (stage_rows-append net (suc column) stages others
    ∙ ap (λ (n : ℕ). stage_rows net (suc column) stages ++ stage_rows net n others) shift)
    ∙ sym (append_assoc (rows_for net column stage) (stage_rows net (suc column) stages)
    (stage_rows net (column + length (stage ∷ stages)) others))

module _ (net : Net) (nested : IsNested net) (range : ℕ → ℕ → Type 0) (classes : ClassTable) (costs : Costs) (stages : List Stage)
    (moments : List Moment) (walk : IsWalk net range moments) (within : All (IsColumn (length net.arcs)) (arcs_of moments))
    (holds : TableHolds net classes moments) where
  abbrev arcs : ℕ
  arcs = length net.arcs

  abbrev counts : ℕ → ℕ
  counts = counts_of arcs stages moments

  -- A column that counts at most as often as picked arcs are taken meets the row that says so.
  at-most-met : (picks : ℕ → Bool) (column : ℕ) (counted : Moment → Bool) → ((number : ℕ) → counted (Takes number) ≡ picks number) →
      ((access address caches : ℕ) (hit : Bool) → counted (Makes access address caches hit) ≡ false) →
      counts column ≤ count_by counted moments → IsMet counts (at_most_arcs arcs picks column)
  at-most-met picks column counted takes makes few =
      let factor : ℕ → ℤ = λ arc. pos 0 -ℤ one_if (picks arc) in
      let parts = row_sum-append counts (terms_of factor arcs) (term_of column (pos 1)) in
      let first = row-along factor arcs stages moments within in
      let less = along-less picks (arcs_of moments) in
      let ones = along-count picks counted takes makes moments in
      let last = row_sum-term counts column (pos 1) in
      omega (arith, ints)

  -- ---- The rows of one stage.
  -- The column before counts the misses one cache before; with no such column the arcs into the place come before.
  abbrev pub IsBefore : (number level before : ℕ) → Type 0
  IsBefore number level zero = Unit {0}
  IsBefore number level (suc before) =
      (lower : ℕ) × (level ≡ suc lower) × (counts (suc before) ≡ count_by (is_miss number lower) moments)

  module _ (number level column : ℕ) (own : Access) (row : List Level2) (entry : Level2)
      (there : item_at number net.accesses ≡ Some own) (listed : item_at number classes.rows ≡ Some row)
      (at_level : item_at level row ≡ Some entry) (is : counts column ≡ count_by (is_miss number level) moments) where
    chain-met : (before : ℕ) → IsBefore number level before → IsMet counts (chain_row net.arcs own.place before column)
    chain-met zero first =
        let made = count-less (is_miss number level) (is_made number) (miss-made number level) moments in
        let few = made-few net range number own there moments walk in
        at-most-met (λ arc. comes_to own.place (item_at arc net.arcs)) column (comes net.arcs own.place)
        (λ arc. refl) (λ access address caches hit. refl) (omega (arith, is, made, few))
    chain-met (suc before) (lower, next, counted) =
        let same : count_by (is_miss number level) moments ≡ count_by (is_miss number (suc lower)) moments =
        ap (λ (l : ℕ). count_by (is_miss number l) moments) next in
        let less = count-less (is_miss number (suc lower)) (is_miss number lower) (miss-before number lower) moments in
        let most : counts column ≤ counts (suc before) = omega (arith, is, same, less, counted) in
        let parts = row_sum-append counts (term_of (suc before) (negsuc 0)) (term_of column (pos 1)) in
        let first = row_sum-term counts (suc before) (negsuc 0) in
        let last = row_sum-term counts column (pos 1) in
        omega (arith, ints)

    -- Nothing goes on where each arrival hits, or none comes.
    never-each : (letter : Letter) (class : Class) → (never_arrives letter || always_hits class) ≡ true →
        LetterHolds number level letter moments → ClassHolds net number level class moments →
        EachMade number (λ caches hit. misses level caches hit ≡ false) moments
    never-each Never class stops letter_holds class_holds =
        λ front rest address caches hit e. absent-misses level caches hit (letter_holds front rest address caches hit e)
    never-each Always Hit stops letter_holds class_holds = class_holds
    never-each Always Miss stops letter_holds class_holds = absurd (true≢false (sym stops))
    never-each Always (First scope) stops letter_holds class_holds = absurd (true≢false (sym stops))
    never-each Always Unclassified stops letter_holds class_holds = absurd (true≢false (sym stops))
    never-each Uncertain Hit stops letter_holds class_holds = class_holds
    never-each Uncertain Miss stops letter_holds class_holds = absurd (true≢false (sym stops))
    never-each Uncertain (First scope) stops letter_holds class_holds = absurd (true≢false (sym stops))
    never-each Uncertain Unclassified stops letter_holds class_holds = absurd (true≢false (sym stops))

    zero-met : (never : Bool) → (never ≡ true → counts column ≡ 0) → All (IsMet counts) (zero_rows never column)
    zero-met false none = All-nil (IsMet counts)
    zero-met true none =
        let nothing = none refl in
        let last = row_sum-term counts column (pos 1) in
        All-cons (IsMet counts) (zero_row column) [] (omega (arith, ints)) (All-nil (IsMet counts))

    -- A first miss comes at most once in each stay in a scope inside the class's one.
    first-met : (scope inner : ℕ) → MissesOnce net scope number level moments → IsRound net own.place scope inner →
        IsMet counts (first_row net column inner)
    first-met scope inner once round =
        let few : count_by (is_miss number level) moments ≤ count_by (enters_at net inner) moments =
        once-counts (enters_at net inner) (is_miss number level) moments
        (λ front between rest one other e miss missed.
        let a = miss-makes number level one miss in
        let b = miss-makes number level other missed in
        let order = e ∙ ap₂ (λ (m k : Moment). front ++ m ∷ between ++ k ∷ rest) a.makes b.makes in
        inner-entry net range nested inner round.number number own there round.held scope round.within moments walk
        front between rest a.address a.caches a.hit b.address b.caches b.hit order
        (once front between rest a.address b.address a.caches b.caches a.hit b.hit order a.missed b.missed))
        (λ between rest other e missed.
        let b = miss-makes number level other missed in
        walk-enters net range nested inner round.number number own there round.held moments walk
        between rest b.address b.caches b.hit (e ∙ ap (λ (k : Moment). between ++ k ∷ rest) b.makes)) in
        at-most-met (enters_by net inner) column (enters_at net inner) (λ arc. refl) (λ access address caches hit. refl)
        (omega (arith, is, few))

    firsts-met : (scope : ℕ) → MissesOnce net scope number level moments → (scopes : List ℕ) → AllIn (IsRound net own.place scope) scopes →
        All (IsMet counts) (map (first_row net column) scopes)
    firsts-met scope once [] all = All-nil (IsMet counts)
    firsts-met scope once (inner ∷ more) all =
        All-cons (IsMet counts) (first_row net column inner) (map (first_row net column) more)
        (first-met scope inner once all.0) (firsts-met scope once more all.1)

    class-met : (class : Class) → ClassHolds net number level class moments →
        All (IsMet counts) (map (first_row net column) (firsts_of net own.place class))
    class-met Hit holds_so = All-nil (IsMet counts)
    class-met Miss holds_so = All-nil (IsMet counts)
    class-met Unclassified holds_so = All-nil (IsMet counts)
    class-met (First scope) once =
        firsts-met scope once (from_scope scope (scopes_round net own.place)) (round-from net nested.scopes own.place scope)

    pub stage-met : (before : ℕ) → IsBefore number level before →
        All (IsMet counts) (rows_for net column (stage_behind net costs number own before level entry))
    stage-met before known =
        let both = holds number level row entry listed at_level in
        let stops : stops_at entry ≡ true → counts column ≡ 0 =
        λ stop. is ∙ never-misses number level moments (never-each entry.letter entry.class stop both.0 both.1) in
        All-cons (IsMet counts) (chain_row net.arcs own.place before column)
        (zero_rows (stops_at entry) column ++ map (first_row net column) (firsts_of net own.place entry.class))
        (chain-met before known)
        (All-append (IsMet counts) (zero_rows (stops_at entry) column) (map (first_row net column) (firsts_of net own.place entry.class))
        (zero-met (stops_at entry) stops) (class-met entry.class both.1))

  abbrev pub at_column : ℕ → Option Stage
  at_column column = item_at (column - arcs) stages

  -- ---- The rows of an access's stages.
  from-met : (number : ℕ) (own : Access) (row : List Level2) → item_at number net.accesses ≡ Some own →
      item_at number classes.rows ≡ Some row → (before level column : ℕ) → arcs < column → (entries : List Level2) →
      AreAt (λ n. item_at n row) level entries → AreAt at_column column (stages_from net costs number own before level column entries) →
      IsBefore number level before → All (IsMet counts) (stage_rows net column (stages_from net costs number own before level column entries))
  from-met number own row there listed before level zero above entries at stands known = absurd (omega (arith, above))
  from-met number own row there listed before level (suc below) above [] at stands known = All-nil (IsMet counts)
  from-met number own row there listed before level (suc below) above (entry ∷ more) at stands known =
      let column : ℕ = suc below in
      let stage : Stage = stage_behind net costs number own before level entry in
      let is : counts column ≡ count_by (is_miss number level) moments =
      counts-stage arcs stages column stage above stands.0 moments within in
      All-append (IsMet counts) (rows_for net column stage)
      (stage_rows net (suc column) (stages_from net costs number own column (suc level) (suc column) more))
      (stage-met number level column own row entry there listed at.0 is before known)
      (from-met number own row there listed column (suc level) (suc column) (omega (arith, above)) more at.1 stands.1
      (level, refl, is))

  by-met : (number column : ℕ) → arcs < column → (accesses : List Access) (rows : List (List Level2)) →
      AreAt (λ n. item_at n net.accesses) number accesses → AreAt (λ n. item_at n classes.rows) number rows →
      AreAt at_column column (stages_by net costs number column accesses rows) →
      All (IsMet counts) (stage_rows net column (stages_by net costs number column accesses rows))
  by-met number column above [] rows there listed stands = All-nil (IsMet counts)
  by-met number column above (own ∷ accesses) [] there listed stands = All-nil (IsMet counts)
  by-met number column above (own ∷ accesses) (row ∷ rows) there listed stands =
      let first : List Stage = stages_from net costs number own 0 1 column row in
      let rest : List Stage = stages_by net costs (suc number) (column + length row) accesses rows in
      let long : length first ≡ length row = length-stages_from net costs number own 0 1 column row in
      let shift : column + length first ≡ column + length row = ap (λ (n : ℕ). column + n) long in
      let back : AreAt at_column (column + length row) rest =
      subst (λ (n : ℕ). AreAt at_column n rest) shift (are-back at_column column first rest stands) in
      All-same (IsMet counts) (stage_rows net column (first ++ rest))
      (stage_rows net column first ++ stage_rows net (column + length row) rest)
      (stage_rows-append net column first rest
      ∙ ap (λ (n : ℕ). stage_rows net column first ++ stage_rows net n rest) shift)
      (All-append (IsMet counts) (stage_rows net column first) (stage_rows net (column + length row) rest)
      (from-met number own row there.0 listed.0 0 1 column above row (are-at row) (are-front at_column column first rest stands) tt)
      (by-met (suc number) (column + length row) (omega (arith, above)) accesses rows there.1 listed.1 back))

  -- The rows of all further stages are met.
  pub stages-met : stages ≡ stages_by net costs 1 (suc arcs) net.accesses classes.rows →
      All (IsMet counts) (stage_rows net (suc arcs) stages)
  stages-met same =
      let stands : AreAt at_column (suc arcs) stages =
      are-moved (λ n. item_at n stages) at_column 1 (suc arcs)
      (λ i. ap (λ (n : ℕ). item_at n stages) (omega arith)) stages (are-at stages) in
      subst (λ (all : List Stage). All (IsMet counts) (stage_rows net (suc arcs) all)) (sym same)
      (by-met 1 (suc arcs) (omega arith) net.accesses classes.rows (are-at net.accesses) (are-at classes.rows)
      (subst (AreAt at_column (suc arcs)) same stands))
