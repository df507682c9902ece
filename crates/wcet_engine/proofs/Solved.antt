-- The certificate of a leaf that shows the greatest value, and of counts that have it.
use Rattle.std.proofs.Common.{◌≡◌, ℕ, ◌≤◌, List, [], ◌∷◌, All, pos, sym, ap, subst, ◌∙◌, arith}
use Rattle.std.proofs.lemmas.Int.{ints}
use Rattle.std.proofs.lemmas.List.Elements.{All-nil}
use Rattle.ipet_program.specs.Certificates.{AreValid, IsValid}
use Rattle.ipet_program.specs.Counts.{IsMet, listed, value_of}
use Rattle.ipet_program.specs.LeafFaults.{IsLeastBound}
use Rattle.ipet_program.specs.Leaves.{IsLeaf, cut_row}
use Rattle.ipet_program.specs.Programs.{IsCheckable, IsProgramOf, crude_limit}
use Rattle.ipet_program.specs.declared.certificate.Certificate.{Certificate}
use Rattle.ipet_program.specs.declared.certificate.Count.{Count}
use Rattle.ipet_program.specs.declared.certificate.Node.{Node}
use Rattle.ipet_program.specs.declared.certificate.Node.TheVariants.{End}
use Rattle.ipet_program.specs.declared.leaf.Leaf.{Leaf}
use Rattle.ipet_program.specs.declared.leaf.Side2.{Side2}
use Rattle.ipet_program.specs.declared.program.Program.{Program}
use Rattle.flow_net.specs.Nested.{IsNested}
use Rattle.flow_net.specs.declared.net.Net.{Net}
use Rattle.ipet_program.proofs.Caps.{feasible-crude}
use Rattle.ipet_program.proofs.LeafLaw.{leaf-bound}
use Rattle.nest_solver.specs.Answers.{AreGreatest, ShowsGreatest}
use Rattle.wcet_engine.specs.Certificates.{IsOneLeaf}

-- The greatest value is the leaf's bound.
value-bound : (program : Program) (leaf : Leaf) (counts : List Count) → IsCheckable program → (shows : ShowsGreatest program leaf) →
    AreGreatest program counts → value_of program (listed counts) ≡ pos shows.bound
value-bound program leaf counts checkable shows are =
    let kept = leaf-bound program (listed counts) [] shows.bound leaf checkable are.greatest.feasible
    (record { met = All-nil (λ (cut : Side2). IsMet (listed counts) (cut_row cut)); named = λ k d inside. absurd (omega (arith, inside)) }) shows.valid in
    let most = kept.value in
    let least = are.greatest.greatest shows.counts shows.greatest.feasible in
    let value = shows.reached in
    omega (arith, ints)

-- The least bound that the leaf shows is the greatest value.
pub least-greatest : (program : Program) (leaf : Leaf) (bound : ℕ) → IsCheckable program →
    IsLeastBound program [] leaf bound → (shows : ShowsGreatest program leaf) → bound ≡ shows.bound
least-greatest program leaf bound checkable is shows =
    let kept = leaf-bound program shows.counts [] bound leaf checkable shows.greatest.feasible
    (record { met = All-nil (λ (cut : Side2). IsMet shows.counts (cut_row cut)); named = λ k d inside. absurd (omega (arith, inside)) }) is.valid in
    let most = kept.value in
    let least = is.least shows.bound shows.valid in
    let value = shows.reached in
    omega (arith, ints)

pub solved : (program : Program) (leaf : Leaf) (counts : List Count) (bound : ℕ) (certificate : Certificate) → IsCheckable program →
    (shows : ShowsGreatest program leaf) → AreGreatest program counts → bound ≡ shows.bound → certificate.bound ≡ bound →
    certificate.reached ≡ bound → certificate.counts ≡ counts → certificate.tree ≡ End leaf ∷ [] → IsValid program certificate
solved program leaf counts bound certificate checkable shows are same bounded reached counted tree = record {
  named = subst (λ (cs : List Count). All (λ (count : Count). (1 ≤ count.column) × (count.column ≤ program.columns)) cs) (sym counted) are.named;
  feasible = subst (λ (cs : List Count). All (IsMet (listed cs)) program.rows) (sym counted) are.greatest.feasible;
  reached = ap (λ (cs : List Count). value_of program (listed cs)) counted ∙ value-bound program leaf counts checkable shows are
      ∙ ap (λ (n : ℕ). pos n) (sym (reached ∙ same));
  tree = subst (λ (nodes : List Node). AreValid program certificate.bound ([] ∷ []) nodes) (sym tree)
      (subst (λ (b : ℕ). IsLeaf program [] b leaf) (sym (bounded ∙ same)) shows.valid, tt);
}

pub one-leaf : (program : Program) (leaf : Leaf) (tree : List Node) → ShowsGreatest program leaf → tree ≡ End leaf ∷ [] → IsOneLeaf tree
one-leaf program leaf tree shows same = record { leaf = leaf; alone = same; bounds = shows.some; whole = shows.whole }

-- The greatest value is at most the crude bound, and so keeps its limit.
pub bound-low : (net : Net) (price : ℕ → ℕ) (program : Program) (leaf : Leaf) → IsNested net → IsProgramOf net price program →
    (shows : ShowsGreatest program leaf) → shows.bound ≤ crude_limit
bound-low net price program leaf nested is shows =
    let most = feasible-crude net price program nested is shows.counts shows.greatest.feasible in
    let value = shows.reached in
    let low = is.low in
    omega (arith, ints)
