-- A certificate is valid where nothing is told of it.
use Rattle.std.proofs.Common.{◌≡◌, ℕ, zero, suc, ◌<◌, ◌≤◌, true, List, [], ◌∷◌, ◌++◌, length, Some, refl, subst, arith}
use Rattle.ipet_program.specs.Certificates.{AreValid, IsValid, first_part, second_part}
use Rattle.ipet_program.specs.Counts.{AreCounts}
use Rattle.ipet_program.specs.Trees.{are_trees}
use Rattle.ipet_program.specs.declared.certificate.Certificate.{Certificate}
use Rattle.ipet_program.specs.declared.certificate.Node.{Node}
use Rattle.ipet_program.specs.declared.certificate.Node.TheVariants.{Split, End}
use Rattle.ipet_program.specs.declared.leaf.LeafFault.{LeafFault}
use Rattle.ipet_program.specs.declared.leaf.LeafFault.TheVariants.{Tree, Wide, Dual}
use Rattle.ipet_program.specs.declared.leaf.Side2.{Side2}
use Rattle.ipet_program.specs.declared.program.Program.{Program}
use Rattle.cert_check.specs.declared.reject.Reason.{Reason}
use Rattle.cert_check.specs.declared.reject.Reason.TheVariants as reason
use Rattle.cert_check.specs.Rejects.{Branch, BreaksAt, Holds, IsFine, IsReject, NodeOffends, branches, branches_of, line_of, rank, reason_of}
use Rattle.cert_check.specs.Walks.{AreFine, IsFirstFault}
use Rattle.cert_check.proofs.Found.{fine-breaks}

-- ---- Trees are valid where each of their nodes is, and only there.
pub fine-valid : (program : Program) (bound : ℕ) (stack : List (List Side2)) (nodes : List Node) →
    are_trees (length stack) nodes ≡ true → AreFine program bound (branches_of stack nodes) →
    AreValid program bound stack nodes
fine-valid program bound [] [] whole fine = tt
fine-valid program bound [] (node ∷ more) whole fine = absurd cc
fine-valid program bound (cuts ∷ others) [] whole fine = absurd cc
fine-valid program bound (cuts ∷ others) (Split column at ∷ more) whole fine = (
  fine 0 (record { cuts = cuts; node = Split column at }) refl,
  fine-valid program bound ((cuts ++ first_part column at ∷ []) ∷ (cuts ++ second_part column at ∷ []) ∷ others) more
      whole (λ p branch at. fine (suc p) branch at),
)
fine-valid program bound (cuts ∷ others) (End leaf ∷ more) whole fine = (
  fine 0 (record { cuts = cuts; node = End leaf }) refl,
  fine-valid program bound others more whole (λ p branch at. fine (suc p) branch at),
)

head-fine : (program : Program) (bound : ℕ) (first branch : Branch) → IsFine program bound first.cuts first.node →
    Some first ≡ Some branch → IsFine program bound branch.cuts branch.node
head-fine program bound first branch fine e =
    let same : first ≡ branch = cc in
    subst (λ (b : Branch). IsFine program bound b.cuts b.node) same fine

pub valid-fine : (program : Program) (bound : ℕ) (stack : List (List Side2)) (nodes : List Node) →
    AreValid program bound stack nodes → AreFine program bound (branches_of stack nodes)
valid-fine program bound [] [] valid p branch at = absurd cc
valid-fine program bound [] (node ∷ more) valid p branch at = absurd valid
valid-fine program bound (cuts ∷ others) [] valid p branch at = absurd valid
valid-fine program bound (cuts ∷ others) (Split column at ∷ more) valid zero branch e =
    head-fine program bound (record { cuts = cuts; node = Split column at }) branch valid.0 e
valid-fine program bound (cuts ∷ others) (Split column at ∷ more) valid (suc p) branch e =
    valid-fine program bound
    ((cuts ++ first_part column at ∷ []) ∷ (cuts ++ second_part column at ∷ []) ∷ others) more valid.1 p branch e
valid-fine program bound (cuts ∷ others) (End leaf ∷ more) valid zero branch e =
    head-fine program bound (record { cuts = cuts; node = End leaf }) branch valid.0 e
valid-fine program bound (cuts ∷ others) (End leaf ∷ more) valid (suc p) branch e =
    valid-fine program bound others more valid.1 p branch e

-- There are no more branches than nodes.
pub few-branches : (stack : List (List Side2)) (nodes : List Node) →
    length (branches_of stack nodes) ≤ length nodes
few-branches [] [] = omega arith
few-branches (cuts ∷ others) [] = omega arith
few-branches [] (node ∷ more) = omega arith
few-branches (cuts ∷ others) (Split column at ∷ more) =
    let h = few-branches ((cuts ++ first_part column at ∷ []) ∷ (cuts ++ second_part column at ∷ []) ∷ others) more in
    omega arith
few-branches (cuts ∷ others) (End leaf ∷ more) = let h = few-branches others more in omega arith

-- ---- What is told.
pub counts-of-valid : (program : Program) (certificate : Certificate) → IsValid program certificate →
    AreCounts program certificate.counts certificate.reached
counts-of-valid program certificate valid =
    record { named = valid.named; feasible = valid.feasible; reached = valid.reached }

no-less : (program : Program) (certificate : Certificate) (kind : LeafFault) (place line : ℕ) →
    line < line_of certificate place →
    ((p : ℕ) → p < place → BreaksAt program certificate.bound (branches certificate) kind p → ⊥) →
    NodeOffends program certificate kind line → ⊥
no-less program certificate kind place line less least offends =
    let told = offends.told in
    least offends.place (omega arith) offends.breaks

-- No earlier reason holds.
before-counts : (program : Program) (certificate : Certificate) → (other : Reason) (line : ℕ) →
    rank other < 3 → Holds program certificate other line → ⊥
before-counts program certificate reason.Text line less h = h
before-counts program certificate reason.Net line less h = h
before-counts program certificate reason.Letters line less h = h
before-counts program certificate reason.Counts line less h = absurd (omega (arith, less))
before-counts program certificate reason.Tree line less h = absurd (omega (arith, less))
before-counts program certificate reason.Wide line less h = absurd (omega (arith, less))
before-counts program certificate reason.Dual line less h = absurd (omega (arith, less))

before-tree : (program : Program) (certificate : Certificate) → AreCounts program certificate.counts certificate.reached →
    (other : Reason) (line : ℕ) →
    rank other < 4 → Holds program certificate other line → ⊥
before-tree program certificate counts reason.Text line less h = h
before-tree program certificate counts reason.Net line less h = h
before-tree program certificate counts reason.Letters line less h = h
before-tree program certificate counts reason.Counts line less h = h.wrong counts
before-tree program certificate counts reason.Tree line less h = absurd (omega (arith, less))
before-tree program certificate counts reason.Wide line less h = absurd (omega (arith, less))
before-tree program certificate counts reason.Dual line less h = absurd (omega (arith, less))

before-wide : (program : Program) (certificate : Certificate) → AreCounts program certificate.counts certificate.reached →
    ((p : ℕ) → BreaksAt program certificate.bound (branches certificate) Tree p → ⊥) →
    (other : Reason) (line : ℕ) →
    rank other < 5 → Holds program certificate other line → ⊥
before-wide program certificate counts tree reason.Text line less h = h
before-wide program certificate counts tree reason.Net line less h = h
before-wide program certificate counts tree reason.Letters line less h = h
before-wide program certificate counts tree reason.Counts line less h = h.wrong counts
before-wide program certificate counts tree reason.Tree line less h = tree h.place h.breaks
before-wide program certificate counts tree reason.Wide line less h = absurd (omega (arith, less))
before-wide program certificate counts tree reason.Dual line less h = absurd (omega (arith, less))

before-dual : (program : Program) (certificate : Certificate) → AreCounts program certificate.counts certificate.reached →
    ((p : ℕ) → BreaksAt program certificate.bound (branches certificate) Tree p → ⊥) →
    ((p : ℕ) → BreaksAt program certificate.bound (branches certificate) Wide p → ⊥) →
    (other : Reason) (line : ℕ) →
    rank other < 6 → Holds program certificate other line → ⊥
before-dual program certificate counts tree wide reason.Text line less h = h
before-dual program certificate counts tree wide reason.Net line less h = h
before-dual program certificate counts tree wide reason.Letters line less h = h
before-dual program certificate counts tree wide reason.Counts line less h = h.wrong counts
before-dual program certificate counts tree wide reason.Tree line less h = tree h.place h.breaks
before-dual program certificate counts tree wide reason.Wide line less h = wide h.place h.breaks
before-dual program certificate counts tree wide reason.Dual line less h = absurd (omega (arith, less))

pub counts-reject : (program : Program) (certificate : Certificate) →
    (AreCounts program certificate.counts certificate.reached → ⊥) →
    IsReject program certificate (record { reason = reason.Counts; line = certificate.reached_line })
counts-reject program certificate wrong = record {
  holds = record { wrong = wrong; told = refl };
  first = before-counts program certificate;
  least = λ line less h. let told = h.told in absurd (omega arith);
}

pub node-reject : (program : Program) (certificate : Certificate) (kind : LeafFault) (place : ℕ) →
    AreCounts program certificate.counts certificate.reached →
    IsFirstFault program certificate.bound (branches certificate) kind place →
    IsReject program certificate (record { reason = reason_of kind; line = line_of certificate place })
node-reject program certificate Tree place counts fault = record {
  holds = record { place = place; breaks = fault.there; told = refl };
  first = before-tree program certificate counts;
  least = λ line less h. no-less program certificate Tree place line less fault.least h;
}
node-reject program certificate Wide place counts fault = record {
  holds = record { place = place; breaks = fault.there; told = refl };
  first = before-wide program certificate counts (λ p at. fault.first Tree p (omega arith) at);
  least = λ line less h. no-less program certificate Wide place line less fault.least h;
}
node-reject program certificate Dual place counts fault = record {
  holds = record { place = place; breaks = fault.there; told = refl };
  first = before-dual program certificate counts (λ p at. fault.first Tree p (omega arith) at)
      (λ p at. fault.first Wide p (omega arith) at);
  least = λ line less h. no-less program certificate Dual place line less fault.least h;
}

-- A certificate of which something is told isn't valid.
pub fault-invalid : (program : Program) (certificate : Certificate) (kind : LeafFault) (place : ℕ) →
    BreaksAt program certificate.bound (branches certificate) kind place → IsValid program certificate → ⊥
fault-invalid program certificate kind place at valid =
    fine-breaks program certificate.bound at.branch.cuts at.branch.node kind
    (valid-fine program certificate.bound ([] ∷ []) certificate.tree valid.tree place at.branch at.stands) at.breaks

-- A certificate of which nothing is told is valid.
pub nothing-told : (program : Program) (certificate : Certificate) →
    AreCounts program certificate.counts certificate.reached →
    AreFine program certificate.bound (branches certificate) → IsValid program certificate
nothing-told program certificate counts fine = record {
  named = counts.named;
  feasible = counts.feasible;
  reached = counts.reached;
  tree = fine-valid program certificate.bound ([] ∷ []) certificate.tree certificate.whole fine;
}
