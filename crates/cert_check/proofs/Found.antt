-- What a walk through a tree has found so far.
use Rattle.std.proofs.Common.{◌≡◌, ℕ, zero, suc, ◌<◌, ◌≤◌, ◌+◌, Bool, true, false, List, [], ◌∷◌, length, get_or, drop, drop_of_length-le, Option, Some, None, refl, sym, ap, subst, ◌∙◌, arith, inl, inr}
use Rattle.std.specs.Prelude.{◌⊎◌, reverse, slice_get}
use Rattle.std.proofs.lemmas.Bool.{cases_lt}
use Rattle.std.proofs.lemmas.List.{length-drop}
use Rattle.std.proofs.lemmas.List.Sums.{sum_by-cons}
use Rattle.std.proofs.lemmas.Option.{slice_get_within}
use Rattle.ipet_program.specs.declared.certificate.Node.{Node}
use Rattle.ipet_program.specs.declared.certificate.Node.TheVariants.{Split, End}
use Rattle.ipet_program.specs.declared.leaf.LeafFault.{LeafFault}
use Rattle.ipet_program.specs.declared.leaf.LeafFault.TheVariants.{Tree, Wide, Dual}
use Rattle.ipet_program.specs.declared.leaf.Side2.{Side2}
use Rattle.ipet_program.specs.declared.program.Program.{Program}
use Rattle.cert_check.specs.Rejects.{Branch, BreaksAt, IsFine, NodeBreaks, branches_of}
use Rattle.cert_check.specs.Walks.{Finds, IsFirstFault, IsFirstOf, Tells, behind, fault_rank, kept, parts, pending, splits_in, splits_of, told_of}

-- ---- A node breaks at most one rule first, and none where it is fine.
pub fine-breaks : (program : Program) (bound : ℕ) (cuts : List Side2) (node : Node) (kind : LeafFault) →
    IsFine program bound cuts node → NodeBreaks program bound cuts node kind → ⊥
fine-breaks program bound cuts (Split column at) Tree fine breaks = breaks fine
fine-breaks program bound cuts (Split column at) Wide fine breaks = breaks
fine-breaks program bound cuts (Split column at) Dual fine breaks = breaks
fine-breaks program bound cuts (End leaf) Tree fine breaks = breaks fine.keeps
fine-breaks program bound cuts (End leaf) Wide fine breaks = breaks.1 fine.fits
fine-breaks program bound cuts (End leaf) Dual fine breaks = breaks.2 fine.shows

one-kind : (program : Program) (bound : ℕ) (cuts : List Side2) (node : Node) (kind other : LeafFault) →
    NodeBreaks program bound cuts node kind → NodeBreaks program bound cuts node other → kind ≡ other
one-kind program bound cuts node Tree Tree one two = refl
one-kind program bound cuts node Wide Wide one two = refl
one-kind program bound cuts node Dual Dual one two = refl
one-kind program bound cuts (Split column at) Tree Wide one two = absurd two
one-kind program bound cuts (Split column at) Tree Dual one two = absurd two
one-kind program bound cuts (Split column at) Wide Tree one two = absurd one
one-kind program bound cuts (Split column at) Wide Dual one two = absurd one
one-kind program bound cuts (Split column at) Dual Tree one two = absurd one
one-kind program bound cuts (Split column at) Dual Wide one two = absurd one
one-kind program bound cuts (End leaf) Tree Wide one two = absurd (one two.0)
one-kind program bound cuts (End leaf) Tree Dual one two = absurd (one two.0)
one-kind program bound cuts (End leaf) Wide Tree one two = absurd (two one.0)
one-kind program bound cuts (End leaf) Wide Dual one two = absurd (one.1 two.1)
one-kind program bound cuts (End leaf) Dual Tree one two = absurd (two one.0)
one-kind program bound cuts (End leaf) Dual Wide one two = absurd (two.1 one.1)

-- What is found is the rule, where the node breaks it.
found-kind : (program : Program) (bound : ℕ) (cuts : List Side2) (node : Node) (found : Option LeafFault)
    (kind : LeafFault) → Finds program bound cuts node found → NodeBreaks program bound cuts node kind →
    found ≡ Some kind
found-kind program bound cuts node None kind finds breaks =
    absurd (fine-breaks program bound cuts node kind finds breaks)
found-kind program bound cuts node (Some other) kind finds breaks =
    ap (λ (k : LeafFault). Some k) (one-kind program bound cuts node other kind finds breaks)

found-breaks : (program : Program) (bound : ℕ) (cuts : List Side2) (node : Node) (found : Option LeafFault)
    (kind : LeafFault) → Finds program bound cuts node found → found ≡ Some kind →
    NodeBreaks program bound cuts node kind
found-breaks program bound cuts node found kind finds is = subst (Finds program bound cuts node) is finds

-- Nothing is found, where no rule is.
fine-by : (program : Program) (bound : ℕ) (cuts : List Side2) (node : Node) (found : Option LeafFault) →
    Finds program bound cuts node found → (found ≡ Some Tree → ⊥) → (found ≡ Some Wide → ⊥) →
    (found ≡ Some Dual → ⊥) → IsFine program bound cuts node
fine-by program bound cuts node None h t w d = h
fine-by program bound cuts node (Some Tree) h t w d = absurd (t refl)
fine-by program bound cuts node (Some Wide) h t w d = absurd (w refl)
fine-by program bound cuts node (Some Dual) h t w d = absurd (d refl)

-- ---- Lists.
from-drop : (branches : List Branch) (place : ℕ) (branch : Branch) (rest : List Branch) →
    drop place branches ≡ branch ∷ rest →
    (slice_get branches place ≡ Some branch) × (drop (suc place) branches ≡ rest)
from-drop [] zero branch rest e = absurd cc
from-drop [] (suc place) branch rest e = absurd cc
from-drop (first ∷ more) zero branch rest e = (cc, cc)
from-drop (first ∷ more) (suc place) branch rest e = from-drop more place branch rest e

nodes-drop : (tree : List Node) (place : ℕ) (d : Node) → place < length tree →
    drop place tree ≡ get_or tree place d ∷ drop (suc place) tree
nodes-drop [] place d lt = absurd (omega arith)
nodes-drop (n ∷ tree) zero d lt = refl
nodes-drop (n ∷ tree) (suc place) d lt = nodes-drop tree place d (omega (arith, lt))

branches-at : (cuts : List Side2) (others : List (List Side2)) (node : Node) (rest : List Node) →
    branches_of (cuts ∷ others) (node ∷ rest) ≡
    record { cuts = cuts; node = node } ∷ branches_of (behind cuts others node) rest
branches-at cuts others (Split column at) rest = refl
branches-at cuts others (End leaf) rest = refl

none-left : (nodes : List Node) → branches_of [] nodes ≡ []
none-left [] = refl
none-left (node ∷ nodes) = refl

none-more : (others : List (List Side2)) → branches_of others [] ≡ []
none-more [] = refl
none-more (cuts ∷ others) = refl

one-more : (node : Node) (rest : List Node) → splits_of (node ∷ rest) ≡ splits_in node + splits_of rest
one-more node rest = sum_by-cons splits_in node rest

-- ---- What was found before a place.
pub record Walked (program : Program) (bound : ℕ) (branches : List Branch) (tree : List Node) (cuts : List Side2)
    (more : Bool) (place : ℕ) (wide dual : Option ℕ) (room : ℕ) : Type 0 where
  pub ahead : branches_of (pending more cuts) (drop place tree) ≡ drop place branches
  pub trees : IsFirstOf program bound branches Tree place None
  pub wides : IsFirstOf program bound branches Wide place wide
  pub duals : IsFirstOf program bound branches Dual place dual
  pub fine : wide ≡ None → dual ≡ None → (p : ℕ) (branch : Branch) → p < place → slice_get branches p ≡ Some branch →
      IsFine program bound branch.cuts branch.node
  pub few : length cuts + splits_of (drop place tree) ≤ room
  pub within : place ≤ length tree

-- More room is room enough.
pub wider : (program : Program) (bound : ℕ) (branches : List Branch) (tree : List Node) (cuts : List Side2) (more : Bool)
    (place : ℕ) (wide dual : Option ℕ) (room other : ℕ) → room ≤ other →
    Walked program bound branches tree cuts more place wide dual room →
    Walked program bound branches tree cuts more place wide dual other
wider program bound branches tree cuts more place wide dual room other less walked =
    let few = walked.few in
    record {
      ahead = walked.ahead;
      trees = walked.trees;
      wides = walked.wides;
      duals = walked.duals;
      fine = walked.fine;
      few = omega arith;
      within = walked.within;
    }

-- The node at a place is the branch there.
module _ (branches : List Branch) (tree : List Node) (cuts : List Side2) (place : ℕ) (node d : Node)
    (lt : place < length tree) (here : node ≡ get_or tree place d)
    (ahead : branches_of (cuts ∷ parts (reverse cuts)) (drop place tree) ≡ drop place branches) where
  front : drop place tree ≡ node ∷ drop (suc place) tree
  front = nodes-drop tree place d lt ∙ ap (λ (n : Node). n ∷ drop (suc place) tree) (sym here)

  pub step : (slice_get branches place ≡ Some (record { cuts = cuts; node = node }))
      × (branches_of (behind cuts (parts (reverse cuts)) node) (drop (suc place) tree) ≡ drop (suc place) branches)
  step =
      let whole : drop place branches ≡ record { cuts = cuts; node = node }
      ∷ branches_of (behind cuts (parts (reverse cuts)) node) (drop (suc place) tree) =
      sym ahead ∙ ap (branches_of (cuts ∷ parts (reverse cuts))) front
      ∙ branches-at cuts (parts (reverse cuts)) node (drop (suc place) tree) in
      let f = from-drop branches place (record { cuts = cuts; node = node })
      (branches_of (behind cuts (parts (reverse cuts)) node) (drop (suc place) tree)) whole in
      (f.0, sym f.1)

  pub fewer : splits_of (drop place tree) ≡ splits_in node + splits_of (drop (suc place) tree)
  fewer = ap splits_of front ∙ one-more node (drop (suc place) tree)

same-branch : (one two : Branch) (o : Option Branch) → o ≡ Some one → o ≡ Some two → one ≡ two
same-branch one two o e f = cc

module _ (program : Program) (bound : ℕ) (branches : List Branch) (place : ℕ) (cuts : List Side2) (node : Node)
    (found : Option LeafFault) (there : slice_get branches place ≡ Some (record { cuts = cuts; node = node }))
    (finds : Finds program bound cuts node found) where
  at-place : (kind : LeafFault) → BreaksAt program bound branches kind place → found ≡ Some kind
  at-place kind at =
      let same = same-branch at.branch (record { cuts = cuts; node = node }) (slice_get branches place) at.stands there in
      found-kind program bound cuts node found kind finds
      (subst (λ (b : Branch). NodeBreaks program bound b.cuts b.node kind) same at.breaks)

  pub not-there : (kind : LeafFault) → IsFirstOf program bound branches kind place None → (found ≡ Some kind → ⊥) →
      IsFirstOf program bound branches kind (place + 1) None
  not-there kind none other p lt at =
      elim (cases_lt p place) [
        | inl before ↦ none p before at
        | inr from ↦
            let same : p ≡ place = omega arith in
            other (at-place kind (subst (BreaksAt program bound branches kind) same at))
      ]

  pub breaks-there : (kind : LeafFault) → found ≡ Some kind → BreaksAt program bound branches kind place
  breaks-there kind is = record {
    branch = record { cuts = cuts; node = node };
    stands = there;
    breaks = found-breaks program bound cuts node found kind finds is;
  }

  pub first-more : (kind : LeafFault) (first : Option ℕ) (here : Bool) →
      IsFirstOf program bound branches kind place first → (here ≡ true → found ≡ Some kind) →
      (here ≡ false → found ≡ Some kind → ⊥) → IsFirstOf program bound branches kind (place + 1) (kept first here place)
  first-more kind (Some q) here h same other = (omega (arith, h.0), h.1, h.2)
  first-more kind None true h same other = (omega arith, breaks-there kind (same refl), h)
  first-more kind None false h same other = not-there kind h (other refl)

  fine-there : (found ≡ Some Tree → ⊥) → (found ≡ Some Wide → ⊥) → (found ≡ Some Dual → ⊥) →
      IsFine program bound cuts node
  fine-there tree wide dual = fine-by program bound cuts node found finds tree wide dual

kept-none : (first : Option ℕ) (here : Bool) (place : ℕ) → kept first here place ≡ None →
    (first ≡ None) × (here ≡ false)
kept-none None true place e = absurd cc
kept-none None false place e = (refl, refl)
kept-none (Some q) here place e = absurd cc

module _ (program : Program) (bound : ℕ) (branches : List Branch) (tree : List Node) (cuts : List Side2) (more : Bool)
    (place : ℕ) (wide dual : Option ℕ) (room : ℕ) (node d : Node) (found : Option LeafFault)
    (walked : Walked program bound branches tree cuts more place wide dual room) (alive : more ≡ true)
    (lt : place < length tree) (here : node ≡ get_or tree place d) (finds : Finds program bound cuts node found) where
  ahead-here : branches_of (cuts ∷ parts (reverse cuts)) (drop place tree) ≡ drop place branches
  ahead-here =
      subst (λ (b : Bool). branches_of (pending b cuts) (drop place tree) ≡ drop place branches) alive walked.ahead

  stands-here : slice_get branches place ≡ Some (record { cuts = cuts; node = node })
  stands-here = (step branches tree cuts place node d lt here ahead-here).0

  -- There is room for one more cut where the node is a split.
  pub has-room : length cuts + splits_in node ≤ room
  has-room =
      let less = fewer branches tree cuts place node d lt here ahead-here in
      let few = walked.few in
      omega arith

  -- A broken rule of the tree is told at once.
  pub told-at-once : found ≡ Some Tree → IsFirstFault program bound branches Tree place
  told-at-once is = record {
    there = breaks-there program bound branches place cuts node found stands-here finds Tree is;
    within = slice_get_within branches place (record { cuts = cuts; node = node }) stands-here;
    first = λ other p less at. absurd (omega (arith, less));
    least = walked.trees;
  }

  -- Else the walk goes on behind the node.
  pub walked-more : (later : List Side2) (on is_wide is_dual : Bool) → (found ≡ Some Tree → ⊥) →
      (is_wide ≡ true → found ≡ Some Wide) → (is_wide ≡ false → found ≡ Some Wide → ⊥) →
      (is_dual ≡ true → found ≡ Some Dual) → (is_dual ≡ false → found ≡ Some Dual → ⊥) →
      behind cuts (parts (reverse cuts)) node ≡ pending on later → length later ≤ length cuts + splits_in node →
      Walked program bound branches tree later on (place + 1) (kept wide is_wide place) (kept dual is_dual place) room
  walked-more later on is_wide is_dual no_tree w1 w2 d1 d2 next few =
      let s = step branches tree cuts place node d lt here ahead-here in
      let one : suc place ≡ place + 1 = omega arith in
      record {
        ahead = subst (λ (q : ℕ). branches_of (pending on later) (drop q tree) ≡ drop q branches) one
            (ap (λ (o : List (List Side2)). branches_of o (drop (suc place) tree)) (sym next) ∙ s.1);
        trees = not-there program bound branches place cuts node found stands-here finds Tree walked.trees no_tree;
        wides = first-more program bound branches place cuts node found stands-here finds Wide wide is_wide walked.wides
            w1 w2;
        duals = first-more program bound branches place cuts node found stands-here finds Dual dual is_dual walked.duals
            d1 d2;
        fine = λ no_wide no_dual p branch less at.
            let w = kept-none wide is_wide place no_wide in
            let u = kept-none dual is_dual place no_dual in
            elim (cases_lt p place) [
              | inl before ↦ walked.fine w.0 u.0 p branch before at
              | inr from ↦
                  let same : p ≡ place = omega arith in
                  let is = same-branch (record { cuts = cuts; node = node }) branch (slice_get branches place) stands-here
                  (subst (λ (q : ℕ). slice_get branches q ≡ Some branch) same at) in
                  subst (λ (b : Branch). IsFine program bound b.cuts b.node) is
                  (fine-there program bound branches place cuts node found stands-here finds no_tree (w2 w.1) (d2 u.1))
            ];
        few =
            let less = fewer branches tree cuts place node d lt here ahead-here in
            let moved = ap (λ (q : ℕ). splits_of (drop q tree)) one in
            let before = walked.few in
            omega arith;
        within = omega (arith, lt);
      }

-- ---- The end of the walk.
past : (branches : List Branch) (place p : ℕ) (branch : Branch) → drop place branches ≡ [] →
    slice_get branches p ≡ Some branch → p < place
past branches place p branch e there =
    let none : length (drop place branches) ≡ 0 = rw e refl in
    omega (arith, none, length-drop place branches, slice_get_within branches p branch there)

-- Nothing is to come where the nodes have ended, or the trees have.
pub ended : (branches : List Branch) (tree : List Node) (cuts : List Side2) (more : Bool) (place : ℕ) →
    branches_of (pending more cuts) (drop place tree) ≡ drop place branches →
    ((more ≡ false) ⊎ (length tree ≤ place)) → drop place branches ≡ []
ended branches tree cuts more place ahead (inl no_more) =
    sym ahead ∙ ap (λ (b : Bool). branches_of (pending b cuts) (drop place tree)) no_more
    ∙ none-left (drop place tree)
ended branches tree cuts more place ahead (inr past_all) =
    sym ahead ∙ ap (branches_of (pending more cuts)) (drop_of_length-le tree {i = place} past_all)
    ∙ none-more (pending more cuts)

-- Before a rule comes none but those that no node breaks.
no-earlier : (program : Program) (bound : ℕ) (branches : List Branch) (kind other : LeafFault) (p : ℕ) →
    fault_rank other < fault_rank kind → (BreaksAt program bound branches Tree p → ⊥) →
    (kind ≡ Dual → BreaksAt program bound branches Wide p → ⊥) → BreaksAt program bound branches other p → ⊥
no-earlier program bound branches kind Tree p less tree wide at = tree at
no-earlier program bound branches Tree Wide p less tree wide at = absurd (omega (arith, less))
no-earlier program bound branches Wide Wide p less tree wide at = absurd (omega (arith, less))
no-earlier program bound branches Dual Wide p less tree wide at = wide refl at
no-earlier program bound branches Tree Dual p less tree wide at = absurd (omega (arith, less))
no-earlier program bound branches Wide Dual p less tree wide at = absurd (omega (arith, less))
no-earlier program bound branches Dual Dual p less tree wide at = absurd (omega (arith, less))

pub finish : (program : Program) (bound : ℕ) (branches : List Branch) (place : ℕ) (wide dual : Option ℕ) →
    drop place branches ≡ [] → IsFirstOf program bound branches Tree place None →
    IsFirstOf program bound branches Wide place wide → IsFirstOf program bound branches Dual place dual →
    (wide ≡ None → dual ≡ None → (p : ℕ) (branch : Branch) → p < place → slice_get branches p ≡ Some branch →
    IsFine program bound branch.cuts branch.node) → Tells program bound branches (told_of wide dual)
finish program bound branches place (Some q) dual e t w d fine = record {
  there = w.1;
  within = slice_get_within branches q w.1.branch w.1.stands;
  first = λ other p less at. no-earlier program bound branches Wide other p less
      (λ h. t p (past branches place p h.branch e h.stands) h) (λ same. absurd cc) at;
  least = w.2;
}
finish program bound branches place None (Some q) e t w d fine = record {
  there = d.1;
  within = slice_get_within branches q d.1.branch d.1.stands;
  first = λ other p less at. no-earlier program bound branches Dual other p less
      (λ h. t p (past branches place p h.branch e h.stands) h)
      (λ same h. w p (past branches place p h.branch e h.stands) h) at;
  least = d.2;
}
finish program bound branches place None None e t w d fine =
    λ p branch there. fine refl refl p branch (past branches place p branch e there) there
