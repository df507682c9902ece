-- Each cache is of its level's size, and holds nothing.
use Rattle.std.proofs.Common.{◌≡◌, ◌∙◌, ap, ap₂, map, length, ◌≤◌, subst, arith, List, IfOk}
use Rattle.std.proofs.lemmas.List.{take_all}
use Rattle.std.proofs.lemmas.Result.{IfOk-weaker}
use Rattle.lru_concrete.specs.declared.level.Level.{Level}
use Rattle.lru_concrete.specs.Contents.{Content}
use Rattle.lru_concrete.specs.Chains.{Held, Hierarchy, empty_of, held_of, levels_of}
use Rattle.lru_concrete.proofs.Kept.{are-empty, held-empty, levels-empty, no_blocks}
use Rattle.lru_concrete.proofs.caches.Caches.empty.Goals as goal

pub new-requires-clause-levels : goal.new-requires-clause-levels
new-requires-clause-levels c =
    let levels : List Level = c.args.levels.now in
    let all : length levels ≤ c.loop-level.level-index = omega (arith, c.loop-level-test.false) in
    let caches = c.from_vec-2.ensures ∙ c.loop-level.invariant ∙ ap (map no_blocks) (take_all c.loop-level.level-index levels all) in
    rw (c.from_vec.ensures ∙ c.in_ok-levels.ensures.items, caches) (are-empty levels)

pub returns-clause-empty : goal.returns-clause-empty
returns-clause-empty c =
    let levels : List Level = c.args.levels.now in
    let all : length levels ≤ c.loop-level.level-index = omega (arith, c.loop-level-test.false) in
    let caches = c.from_vec-2.ensures ∙ c.loop-level.invariant ∙ ap (map no_blocks) (take_all c.loop-level.level-index levels all) in
    let held : held_of c.from_vec.result c.from_vec-2.result ≡ map empty_of levels =
    ap₂ (λ (ls : List Level) (cs : List Content). held_of ls cs) (c.from_vec.ensures ∙ c.in_ok-levels.ensures.items) caches ∙ held-empty levels in
    subst (λ (hs : List Held). IfOk c.new.result (λ c'. c' ≡ record { caches = hs; memory = c.args.memory })) held c.new.ensures

pub returns-clause-levels : goal.returns-clause-levels
returns-clause-levels c =
    let levels : List Level = c.args.levels.now in
    let all : length levels ≤ c.loop-level.level-index = omega (arith, c.loop-level-test.false) in
    let caches = c.from_vec-2.ensures ∙ c.loop-level.invariant ∙ ap (map no_blocks) (take_all c.loop-level.level-index levels all) in
    let held : held_of c.from_vec.result c.from_vec-2.result ≡ map empty_of levels =
    ap₂ (λ (ls : List Level) (cs : List Content). held_of ls cs) (c.from_vec.ensures ∙ c.in_ok-levels.ensures.items) caches ∙ held-empty levels in
    IfOk-weaker c.new.result (λ made. made ≡ record { caches = held_of c.from_vec.result c.from_vec-2.result; memory = c.args.memory })
    (λ made. levels_of made.caches ≡ levels)
    (λ made is. ap (λ (h : Hierarchy). levels_of h.caches) is ∙ ap levels_of held ∙ levels-empty levels) c.new.ensures
