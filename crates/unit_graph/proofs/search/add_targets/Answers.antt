use Rattle.std.proofs.Common.{ℕ, ◌≡◌, ◌+◌, ◌++◌, ◌∷◌, [], List, map, get_or, subst, sym, take, ◌∙◌, ap, arith}
use Rattle.std.specs.Prelude.{Contains}
use Rattle.std.proofs.lemmas.List.{map-append, take_all, take_more}
use Rattle.elf_mips.specs.declared.mark.Mark.{Mark}
use Rattle.unit_graph.specs.Search.{Gains}
use Rattle.unit_graph.proofs.Gaining.{Gains-more, Gains-nobody}
use Rattle.unit_graph.proofs.search.add_targets.Goals as goal

pub loop-mark-init : goal.loop-mark-init
loop-mark-init c = Gains-nobody c.args.set.now.keys

pub loop-mark-preserved : goal.loop-mark-preserved
loop-mark-preserved c =
    let at = c.loop-mark.mark-index in
    let one : Mark = get_or c.args.marks.now at (record { kind = 0; address = 0; x = 0; y = 0 }) in
    let target : Mark → ℕ = λ (mark : Mark). mark.x in
    let before = take at c.args.marks.now in
    let more : map target (take (at + 1) c.args.marks.now) ≡ map target before ++ one.x ∷ [] =
    ap (map target) (take_more c.args.marks.now at (record { kind = 0; address = 0; x = 0; y = 0 }) c.loop-mark-test.true)
    ∙ map-append target before (one ∷ []) in
    subst (λ (targets : List ℕ). Gains (Contains targets) c.args.set.now.keys c.add.new.set.keys) (sym more)
    (Gains-more (map target before) one.x c.args.set.now.keys c.loop-mark.set.keys c.add.new.set.keys
    c.loop-mark.invariant c.in_ok-add.ensures)

pub returns : goal.returns
returns c =
    subst
    (λ (marks : List Mark).
    Gains (Contains (map (λ (mark : Mark). mark.x) marks)) c.args.set.now.keys c.loop-mark.set.keys)
    (take_all c.loop-mark.mark-index c.args.marks.now (omega (arith, c.loop-mark-test.false)))
    c.loop-mark.invariant
