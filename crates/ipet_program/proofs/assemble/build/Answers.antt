-- Below the limit of the crude bound the turns of all places are low, and the parts are those of the program.
use Rattle.std.proofs.Common.{◌≡◌, ◌+◌, ◌≤◌, ◌++◌, ℕ, ℤ, suc, List, All, length, map, pos, refl, sym, ap, subst, ◌∙◌, arith}
use Rattle.std.proofs.lemmas.List.Elements.{All-weaker}
use Rattle.cache_config.specs.Instructions.{costs_of}
use Rattle.ipet_program.specs.Programs.{arc_caps, arc_values, crude_of, full_price, place_price}
use Rattle.ipet_program.specs.Rows.{rows_of}
use Rattle.ipet_program.specs.Scopes.{turns_at}
use Rattle.ipet_program.specs.StageRows.{stage_rows}
use Rattle.ipet_program.specs.Stages.{further_stages}
use Rattle.ipet_program.specs.Tables.{IsFullPrice, IsPrice}
use Rattle.ipet_program.specs.declared.program.Row.{Row}
use Rattle.ipet_program.specs.declared.program.Stage.{Stage}
use Rattle.ipet_program.proofs.Crudely.{is-low, low-by, priced-each}
use Rattle.ipet_program.proofs.Staged.{flow-staged}
use Rattle.ipet_program.proofs.StagesCheckable.{befores, staged-checkable}
use Rattle.ipet_program.proofs.WalkCounts.{counts-walks}
use Rattle.ipet_program.proofs.assemble.build.Goals as goal

some-each : (prices : List ℕ) → All IsFullPrice prices → All (λ (p : ℕ). 1 ≤ p) prices
some-each prices priced = All-weaker IsFullPrice (λ (p : ℕ). 1 ≤ p) (λ p is. is.0) prices priced

pub program_of-requires-clause-low : goal.program_of-requires-clause-low
program_of-requires-clause-low c =
    let net = c.args.net.now in
    low-by net (full_price c.args.profile.now c.args.image.now net) c.in_ok-full.full.items c.deref.result.now
    c.crude_of-crude.result c.in_ok-full.ensures.prices (some-each c.in_ok-full.full.items c.in_ok-full.ensures.priced)
    c.deref.ensures.value c.crude_of-crude.ensures.crude c.if-crude-gt-CRUDE_LIMIT.false

pub with_stages-requires-clause-low : goal.with_stages-requires-clause-low
with_stages-requires-clause-low c =
    let net = c.args.net.now in
    low-by net (full_price c.args.profile.now c.args.image.now net) c.in_ok-full.full.items c.deref.result.now
    c.crude_of-crude.result c.in_ok-full.ensures.prices (some-each c.in_ok-full.full.items c.in_ok-full.ensures.priced)
    c.deref.ensures.value c.crude_of-crude.ensures.crude c.if-crude-gt-CRUDE_LIMIT.false

pub returns-clause-program : goal.returns-clause-program
returns-clause-program c =
    let net = c.args.net.now in
    let profile = c.args.profile.now in
    let price : ℕ → ℕ = place_price profile c.args.image.now net in
    let full : ℕ → ℕ = full_price profile c.args.image.now net in
    let prices = c.in_ok-prices.ensures in
    let parts = c.in_ok-plain.ensures.parts in
    let staged = c.in_ok-program.ensures.staged in
    let program = c.in_ok-program.program in
    let same : c.in_ok-stages.stages.items ≡ program.stages = sym staged.stages in
    record {
      stages = staged.stages ∙ c.in_ok-stages.ensures.stages;
      columns = subst (λ (stages : List Stage). program.columns ≡ length net.arcs + length stages) same staged.columns;
      rows = subst (λ (stages : List Stage). program.rows ≡ rows_of net ++ stage_rows net (suc (length net.arcs)) stages) same
          (staged.rows ∙ ap (λ (rows : List Row). rows ++ stage_rows net (suc (length net.arcs)) c.in_ok-stages.stages.items) parts.rows);
      value = subst (λ (stages : List Stage). program.value ≡ arc_values net price ++ map (λ (stage : Stage). pos stage.latency) stages) same
          (staged.value ∙ ap (λ (values : List ℤ). values ++ map (λ (stage : Stage). pos stage.latency) c.in_ok-stages.stages.items)
          (parts.value price refl (c.deref-3.ensures.value ∙ prices.prices)));
      caps = subst (λ (stages : List Stage). program.caps ≡ arc_caps net ++ map (λ (stage : Stage). turns_at net stage.place) stages) same
          (staged.caps ∙ ap (λ (caps : List ℕ). caps ++ map (λ (stage : Stage). turns_at net stage.place) c.in_ok-stages.stages.items) parts.caps);
      costly = λ place number. priced-each price (length net.places) c.in_ok-prices.prices.items prices.prices
          (All-weaker IsPrice (λ (p : ℕ). 1 ≤ p) (λ p is. is.0) c.in_ok-prices.prices.items prices.priced)
          place number.from_one number.within;
      low = is-low c.crude_of-crude.result (crude_of net full)
          (c.crude_of-crude.ensures.crude full (c.deref.ensures.value ∙ c.in_ok-full.ensures.prices))
          c.if-crude-gt-CRUDE_LIMIT.false;
    }

pub returns-clause-counted : goal.returns-clause-counted
returns-clause-counted c =
    counts-walks c.args.net.now c.requires.nested c.args.profile.now c.args.image.now c.args.classes.now c.in_ok-program.program
    c.requires.rows (returns-clause-program c)

pub returns-clause-staged : goal.returns-clause-staged
returns-clause-staged c =
    flow-staged c.args.net.now c.args.classes.now c.args.profile.now c.args.image.now c.in_ok-program.program c.requires.nested
    (returns-clause-program c)

pub returns-clause-checkable : goal.returns-clause-checkable
returns-clause-checkable c =
    let net = c.args.net.now in
    let stages = c.in_ok-stages.stages.items in
    let made = c.in_ok-stages.ensures in
    let total = length net.arcs + length stages in
    let further = further_stages net (costs_of c.args.profile.now) c.args.classes.now in
    staged-checkable net c.in_ok-plain.plain stages c.in_ok-program.program c.in_ok-plain.ensures.checkable
    c.in_ok-plain.ensures.parts.columns c.requires.few made.few made.known
    (subst (λ (xs : List Stage). All (λ (stage : Stage). stage.before ≤ total) xs) (sym made.stages)
    (befores total net (costs_of c.args.profile.now) 1 (suc (length net.arcs)) net.accesses c.args.classes.now.rows
    (let long : length stages ≡ length further = ap length made.stages in omega (arith, long))))
    c.in_ok-program.ensures.staged
