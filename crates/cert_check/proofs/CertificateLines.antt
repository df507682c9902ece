-- The lines of certificates are the sheets.
use Rattle.std.proofs.Common.{◌≡◌, ℕ, zero, suc, ◌+◌, ◌<◌, ◌≤◌, Bool, true, false, List, [], ◌∷◌, ◌++◌, length, get_or, Option, Some, None, refl, sym, ap, subst, ◌∙◌, append_assoc, arith, codes}
use Rattle.std.specs.Prelude.{All, AllPairs, ◌&&◌, nat_le, nat_lt, map, flat_map, if◌then◌else◌}
use Rattle.std.specs.Fmt.{decimal}
use Rattle.std.specs.List.{AllByRecursion}
use Rattle.std.proofs.lemmas.Bool.{le-leb, leb-true, lt-ltb, ltb-true}
use Rattle.std.proofs.lemmas.Grind.{flat_map-append}
use Rattle.std.proofs.lemmas.List.{append-nil}
use Rattle.std.proofs.lemmas.List.Concat.{flat_map-cons}
use Rattle.std.proofs.lemmas.List.Elements.{All-nil, All-cons}
use Rattle.std.proofs.lemmas.List.Folds.{flat_map-map}
use Rattle.std.proofs.lemmas.List.Kept.{AllPairs-cons}
use Rattle.ipet_program.specs.declared.certificate.Certificate.{Certificate}
use Rattle.ipet_program.specs.declared.certificate.Count.{Count}
use Rattle.ipet_program.specs.declared.certificate.Node.{Node}
use Rattle.ipet_program.specs.declared.certificate.Node.TheVariants.{Split, End}
use Rattle.ipet_program.specs.Trees.{IsWhole, are_trees}
use Rattle.cert_check.specs.declared.line.Line.{Line}
use Rattle.cert_check.specs.declared.line.Line.TheVariants.{Bound, Reached, Value, Tree, Last}
use Rattle.cert_check.specs.declared.order.State.{State}
use Rattle.cert_check.specs.declared.order.State.TheVariants.{Begin, Bounded, Counts, Trees, Ended}
use Rattle.cert_check.specs.Faults.{Begins, IsSame}
use Rattle.cert_check.specs.Lines.{FitsLine, Fits, certificate_lines, line_text, text_of}
use Rattle.cert_check.specs.Order.{next}
use Rattle.cert_check.specs.Texts.{certificate_text, count_text, node_text}
use Rattle.cert_check.proofs.Lists.{head_same, tail_same}
use Rattle.cert_check.proofs.Sheets.{IsSheet, Leads, begins_sheet, same_state, no_state, still}

-- The lines of a tree, and of counts and a tree.
abbrev pub tree_lines : List Node → List Line
tree_lines nodes = map Tree nodes ++ Last ∷ []

abbrev pub count_lines : List Count → List Node → List Line
count_lines counts nodes = map Value counts ++ tree_lines nodes

abbrev pub all_lines : (bound reached : ℕ) → List Count → List Node → List Line
all_lines bound reached counts nodes = Bound bound ∷ (Reached reached ∷ count_lines counts nodes)

-- Counts by rising column, from a column on, none of them 0.
abbrev pub Rises : ℕ → List Count → Type 0
Rises low [] = Unit {0}
Rises low (count ∷ counts) = (low ≤ count.column) × (0 < count.number) × Rises (count.column + 1) counts

if_tested : (b c : Bool) (t s : State) → (if b && c then Some s else None) ≡ Some t → (b ≡ true) × (c ≡ true) × (s ≡ t)
if_tested true true t s e = (refl, refl, same_state s t e)
if_tested true false t s e = absurd (no_state t e)
if_tested false c t s e = absurd (no_state t e)

-- Which counts and nodes lead to the end.
tested : (low column number : ℕ) (t : State) → (s : State) →
    (if nat_le low column && nat_lt 0 number then Some s else None) ≡ Some t → (low ≤ column) × (0 < number) × (s ≡ t)
tested low column number t s e =
    let b = if_tested (nat_le low column) (nat_lt 0 number) t s e in
    (leb-true low column b.0, ltb-true 0 number b.1, b.2)

nodes_whole : (left : ℕ) (nodes : List Node) → Leads (Trees left) (tree_lines nodes) Ended → are_trees left nodes ≡ true
nodes_whole zero [] h = refl
nodes_whole (suc left) [] h = absurd (no_state h.0 h.1)
nodes_whole zero (node ∷ nodes) h = absurd (no_state h.0 h.1)
nodes_whole (suc left) (Split column at ∷ nodes) h =
    nodes_whole (suc (suc left)) nodes (subst (λ (s : State). Leads s (tree_lines nodes) Ended) (sym (same_state (Trees (suc (suc left))) h.0 h.1)) h.2)
nodes_whole (suc left) (End leaf ∷ nodes) h =
    nodes_whole left nodes (subst (λ (s : State). Leads s (tree_lines nodes) Ended) (sym (same_state (Trees left) h.0 h.1)) h.2)

tree_whole : (low : ℕ) (nodes : List Node) → Leads (Counts low) (tree_lines nodes) Ended → IsWhole nodes
tree_whole low [] h = absurd (no_state h.0 h.1)
tree_whole low (Split column at ∷ nodes) h =
    nodes_whole 2 nodes (subst (λ (s : State). Leads s (tree_lines nodes) Ended) (sym (same_state (Trees 2) h.0 h.1)) h.2)
tree_whole low (End leaf ∷ nodes) h =
    nodes_whole 0 nodes (subst (λ (s : State). Leads s (tree_lines nodes) Ended) (sym (same_state (Trees 0) h.0 h.1)) h.2)

pub counts_lawful : (low : ℕ) (counts : List Count) (nodes : List Node) → Leads (Counts low) (count_lines counts nodes) Ended →
    Rises low counts × IsWhole nodes
counts_lawful low [] nodes h = (tt, tree_whole low nodes h)
counts_lawful low (count ∷ counts) nodes h =
    let t = tested low count.column count.number h.0 (Counts (count.column + 1)) h.1 in
    let more = counts_lawful (count.column + 1) counts nodes (subst (λ (s : State). Leads s (count_lines counts nodes) Ended) (sym t.2) h.2) in
    ((t.0, t.1, more.0), more.1)

-- All lines of a certificate lead to the end only where its counts rise and its tree is whole.
pub all_lawful : (bound reached : ℕ) (counts : List Count) (nodes : List Node) →
    Leads Begin (all_lines bound reached counts nodes) Ended → Rises 0 counts × IsWhole nodes
all_lawful bound reached counts nodes h =
    let k = subst (λ (s : State). Leads s (Reached reached ∷ count_lines counts nodes) Ended) (sym (same_state Bounded h.0 h.1)) h.2 in
    counts_lawful 0 counts nodes (subst (λ (s : State). Leads s (count_lines counts nodes) Ended) (sym (same_state (Counts 0) k.0 k.1)) k.2)

-- The other way round.
whole_nodes : (left : ℕ) (nodes : List Node) → are_trees left nodes ≡ true → Leads (Trees left) (tree_lines nodes) Ended
whole_nodes zero [] h = (Ended, refl, refl)
whole_nodes (suc left) [] h = absurd (cc)
whole_nodes zero (node ∷ nodes) h = absurd (cc)
whole_nodes (suc left) (Split column at ∷ nodes) h = (Trees (suc (suc left)), refl, whole_nodes (suc (suc left)) nodes h)
whole_nodes (suc left) (End leaf ∷ nodes) h = (Trees left, refl, whole_nodes left nodes h)

whole_tree : (low : ℕ) (nodes : List Node) → IsWhole nodes → Leads (Counts low) (tree_lines nodes) Ended
whole_tree low [] h = absurd (cc)
whole_tree low (Split column at ∷ nodes) h = (Trees 2, refl, whole_nodes 2 nodes h)
whole_tree low (End leaf ∷ nodes) h = (Trees 0, refl, whole_nodes 0 nodes h)

lawful_counts : (low : ℕ) (counts : List Count) (nodes : List Node) → Rises low counts → IsWhole nodes →
    Leads (Counts low) (count_lines counts nodes) Ended
lawful_counts low [] nodes h w = whole_tree low nodes w
lawful_counts low (count ∷ counts) nodes h w =
    (Counts (count.column + 1), rw (le-leb low count.column h.0, lt-ltb 0 count.number h.1) refl, lawful_counts (count.column + 1) counts nodes h.2 w)

-- Rising counts by pairs, and from a column on.
rises_from : (low : ℕ) (counts : List Count) → Rises low counts → All (λ count. low ≤ count.column) counts
rises_from low [] h = All-nil _
rises_from low (count ∷ counts) h =
    let more = rises_from (count.column + 1) counts h.2 in
    All-cons (λ c. low ≤ c.column) count counts h.0 (λ k d lt. omega (arith, more k d lt, h.0))

pub rises_taken : (low : ℕ) (counts : List Count) → Rises low counts → All (λ count. 0 < count.number) counts
rises_taken low [] h = All-nil _
rises_taken low (count ∷ counts) h =
    All-cons (λ c. 0 < c.number) count counts h.1 (rises_taken (count.column + 1) counts h.2)

pub rises_pairs : (low : ℕ) (counts : List Count) → Rises low counts →
    AllPairs (λ count other. count.column < other.column) counts
rises_pairs low [] h = λ i j d lt le. absurd (omega arith)
rises_pairs low (count ∷ counts) h =
    let more = rises_from (count.column + 1) counts h.2 in
    AllPairs-cons (λ a b. a.column < b.column) count counts (λ k d lt. omega (arith, more k d lt)) (rises_pairs (count.column + 1) counts h.2)

pairs_rise : (low : ℕ) (counts : List Count) → All (λ count. low ≤ count.column) counts → All (λ count. 0 < count.number) counts →
    AllPairs (λ count other. count.column < other.column) counts → Rises low counts
pairs_rise low [] from taken pairs = tt
pairs_rise low (count ∷ counts) from taken pairs = (
  from 0 count (omega arith),
  taken 0 count (omega arith),
  pairs_rise (count.column + 1) counts (λ k d lt. omega (arith, pairs 0 (suc k) d (omega arith) (omega arith)))
      (λ k d lt. taken (suc k) d (omega arith)) (λ i j d lt le. pairs (suc i) (suc j) d (omega arith) (omega arith)),
)

-- The lines of a certificate are a sheet.
pub certificate_sheet : (certificate : Certificate) → Fits certificate → IsSheet (certificate_lines certificate)
certificate_sheet certificate fits = record {
  fit = fits;
  order = (
    Bounded,
    refl,
    (
      Counts 0,
      refl,
      lawful_counts 0 certificate.counts certificate.tree
          (pairs_rise 0 certificate.counts (λ k d lt. omega arith) certificate.taken certificate.rising) certificate.whole,
    ),
  );
}

-- A sheet is the lines of a certificate.
record HasNodes (lines : List Line) : Type 0 where
  nodes : List Node
  is : lines ≡ tree_lines nodes

record HasCounts (lines : List Line) : Type 0 where
  counts : List Count
  nodes : List Node
  is : lines ≡ count_lines counts nodes

nodes_of : (left : ℕ) (lines : List Line) → Leads (Trees left) lines Ended → HasNodes lines
nodes_of left [] h = absurd (cc)
nodes_of left (Bound b ∷ lines) h = absurd (no_state h.0 h.1)
nodes_of left (Reached r ∷ lines) h = absurd (no_state h.0 h.1)
nodes_of left (Value c ∷ lines) h = absurd (no_state h.0 h.1)
nodes_of zero (Tree node ∷ lines) h = absurd (no_state h.0 h.1)
nodes_of (suc left) (Tree (Split column at) ∷ lines) h =
    let more = nodes_of (suc (suc left)) lines (subst (λ (s : State). Leads s lines Ended) (sym (same_state (Trees (suc (suc left))) h.0 h.1)) h.2) in
    record { nodes = Split column at ∷ more.nodes; is = ap (λ (t : List Line). Tree (Split column at) ∷ t) more.is }
nodes_of (suc left) (Tree (End leaf) ∷ lines) h =
    let more = nodes_of left lines (subst (λ (s : State). Leads s lines Ended) (sym (same_state (Trees left) h.0 h.1)) h.2) in
    record { nodes = End leaf ∷ more.nodes; is = ap (λ (t : List Line). Tree (End leaf) ∷ t) more.is }
nodes_of zero (Last ∷ []) h = record { nodes = []; is = refl }
nodes_of zero (Last ∷ (line ∷ lines)) h =
    let e : Leads Ended (line ∷ lines) Ended = subst (λ (s : State). Leads s (line ∷ lines) Ended) (sym (same_state Ended h.0 h.1)) h.2 in
    absurd (no_state e.0 e.1)
nodes_of (suc left) (Last ∷ lines) h = absurd (no_state h.0 h.1)

counts_of : (low : ℕ) (lines : List Line) → Leads (Counts low) lines Ended → HasCounts lines
counts_of low [] h = absurd (cc)
counts_of low (Bound b ∷ lines) h = absurd (no_state h.0 h.1)
counts_of low (Reached r ∷ lines) h = absurd (no_state h.0 h.1)
counts_of low (Value c ∷ lines) h =
    let t = tested low c.column c.number h.0 (Counts (c.column + 1)) h.1 in
    let more = counts_of (c.column + 1) lines (subst (λ (s : State). Leads s lines Ended) (sym t.2) h.2) in
    record { counts = c ∷ more.counts; nodes = more.nodes; is = ap (λ (t : List Line). Value c ∷ t) more.is }
counts_of low (Tree (Split column at) ∷ lines) h =
    let more = nodes_of 2 lines (subst (λ (s : State). Leads s lines Ended) (sym (same_state (Trees 2) h.0 h.1)) h.2) in
    record { counts = []; nodes = Split column at ∷ more.nodes; is = ap (λ (t : List Line). Tree (Split column at) ∷ t) more.is }
counts_of low (Tree (End leaf) ∷ lines) h =
    let more = nodes_of 0 lines (subst (λ (s : State). Leads s lines Ended) (sym (same_state (Trees 0) h.0 h.1)) h.2) in
    record { counts = []; nodes = End leaf ∷ more.nodes; is = ap (λ (t : List Line). Tree (End leaf) ∷ t) more.is }
counts_of low (Last ∷ lines) h = absurd (no_state h.0 h.1)

certificate_by : (bound reached : ℕ) (counts : List Count) (nodes : List Node) → Rises 0 counts → IsWhole nodes → Certificate
certificate_by bound reached counts nodes rises whole = record {
  bound = bound;
  reached = reached;
  counts = counts;
  tree = nodes;
  reached_line = 0;
  taken = rises_taken 0 counts rises;
  rising = rises_pairs 0 counts rises;
  whole = whole;
}

by_lines : (bound reached : ℕ) (counts : List Count) (nodes : List Node) (rises : Rises 0 counts) (whole : IsWhole nodes) →
    certificate_lines (certificate_by bound reached counts nodes rises whole) ≡ all_lines bound reached counts nodes
unfolding certificate_by
by_lines bound reached counts nodes rises whole = refl

-- The lines are those of a certificate.
record IsOf (lines : List Line) : Type 0 where
  certificate : Certificate
  fits : Fits certificate
  is : certificate_lines certificate ≡ lines

of_counts : (bound reached : ℕ) (more : List Line) → AllByRecursion FitsLine (Bound bound ∷ (Reached reached ∷ more)) →
    Leads (Counts 0) more Ended → IsOf (Bound bound ∷ (Reached reached ∷ more))
of_counts bound reached more fit h =
    let parts = counts_of 0 more h in
    let lawful = counts_lawful 0 parts.counts parts.nodes (subst (λ (t : List Line). Leads (Counts 0) t Ended) parts.is h) in
    let e = by_lines bound reached parts.counts parts.nodes lawful.0 lawful.1 ∙ ap (λ (t : List Line). Bound bound ∷ (Reached reached ∷ t)) (sym parts.is) in
    record {
      certificate = certificate_by bound reached parts.counts parts.nodes lawful.0 lawful.1;
      fits = subst (AllByRecursion FitsLine) (sym e) fit;
      is = e;
    }

of_bounded : (bound : ℕ) (more : List Line) → AllByRecursion FitsLine (Bound bound ∷ more) → Leads Bounded more Ended → IsOf (Bound bound ∷ more)
of_bounded bound [] fit h = absurd (still Bounded refl h)
of_bounded bound (Bound b ∷ more) fit h = absurd (no_state h.0 h.1)
of_bounded bound (Reached reached ∷ more) fit h =
    of_counts bound reached more fit (subst (λ (s : State). Leads s more Ended) (sym (same_state (Counts 0) h.0 h.1)) h.2)
of_bounded bound (Value c ∷ more) fit h = absurd (no_state h.0 h.1)
of_bounded bound (Tree n ∷ more) fit h = absurd (no_state h.0 h.1)
of_bounded bound (Last ∷ more) fit h = absurd (no_state h.0 h.1)

of_begin : (lines : List Line) → AllByRecursion FitsLine lines → Leads Begin lines Ended → IsOf lines
of_begin [] fit h = absurd (still Begin refl h)
of_begin (Bound bound ∷ more) fit h =
    of_bounded bound more fit (subst (λ (s : State). Leads s more Ended) (sym (same_state Bounded h.0 h.1)) h.2)
of_begin (Reached r ∷ more) fit h = absurd (no_state h.0 h.1)
of_begin (Value c ∷ more) fit h = absurd (no_state h.0 h.1)
of_begin (Tree n ∷ more) fit h = absurd (no_state h.0 h.1)
of_begin (Last ∷ more) fit h = absurd (no_state h.0 h.1)

-- Lines that lead to some state begin a certificate's.
pub begins_of : (lines : List Line) (state : State) → AllByRecursion FitsLine lines → Leads Begin lines state → Begins lines
begins_of lines state fit leads =
    let b = begins_sheet lines state fit leads in
    let o = of_begin (lines ++ b.more) b.sheet.fit b.sheet.order in
    record { certificate = o.certificate; fits = o.fits; more = b.more; is = o.is }

-- What begins with a line behind others is a sheet.
pub record GoesOn (lines : List Line) (line : Line) : Type 0 where
  pub more : List Line
  pub sheet : IsSheet (lines ++ line ∷ more)

pub goes_on : (lines : List Line) (line : Line) → Begins (lines ++ line ∷ []) → GoesOn lines line
goes_on lines line b =
    let e = b.is ∙ append_assoc lines (line ∷ []) b.more in
    record { more = b.more; sheet = subst IsSheet e (certificate_sheet b.certificate b.fits) }

regroup : (a b c d e f g h i : List ℕ) →
    a ++ b ++ c ++ d ++ e ++ f ++ g ++ h ++ i ≡ (a ++ b ++ c) ++ ((d ++ e ++ f) ++ (g ++ (h ++ i)))
regroup a b c d e f g h i = simp append_assoc

tree_text : (nodes : List Node) → text_of (tree_lines nodes) ≡ flat_map node_text nodes ++ codes "end\n"
tree_text nodes =
    flat_map-append line_text (map Tree nodes) (Last ∷ [])
    ∙ ap (λ (t : List ℕ). t ++ text_of (Last ∷ [])) (flat_map-map line_text Tree nodes)
    ∙ ap (λ (t : List ℕ). flat_map node_text nodes ++ t) (flat_map-cons line_text Last [] ∙ append-nil (codes "end\n"))

count_texts : (counts : List Count) (nodes : List Node) →
    text_of (count_lines counts nodes) ≡ flat_map count_text counts ++ (flat_map node_text nodes ++ codes "end\n")
count_texts counts nodes =
    flat_map-append line_text (map Value counts) (tree_lines nodes)
    ∙ ap (λ (t : List ℕ). t ++ text_of (tree_lines nodes)) (flat_map-map line_text Value counts)
    ∙ ap (λ (t : List ℕ). flat_map count_text counts ++ t) (tree_text nodes)

-- The text of a certificate is that of its lines.
pub text_law : (bound reached : ℕ) (counts : List Count) (nodes : List Node) →
    codes "bound " ++ decimal bound ++ codes "\n" ++ codes "reached " ++ decimal reached ++ codes "\n"
    ++ flat_map count_text counts ++ flat_map node_text nodes ++ codes "end\n" ≡ text_of (all_lines bound reached counts nodes)
text_law bound reached counts nodes =
    regroup (codes "bound ") (decimal bound) (codes "\n") (codes "reached ") (decimal reached) (codes "\n") (flat_map count_text counts) (flat_map node_text nodes) (codes "end\n")
    ∙ ap (λ (t : List ℕ). line_text (Bound bound) ++ (line_text (Reached reached) ++ t)) (sym (count_texts counts nodes))
    ∙ ap (λ (t : List ℕ). line_text (Bound bound) ++ t) (sym (flat_map-cons line_text (Reached reached) (count_lines counts nodes)))
    ∙ sym (flat_map-cons line_text (Bound bound) (Reached reached ∷ count_lines counts nodes))

pub certificate_text-lines : (certificate : Certificate) → certificate_text certificate ≡ text_of (certificate_lines certificate)
certificate_text-lines certificate = text_law certificate.bound certificate.reached certificate.counts certificate.tree

-- The lines tell the certificate.
node_same : (a b : Node) → Tree a ≡ Tree b → a ≡ b
node_same a b e = cc

count_same : (a b : Count) → Value a ≡ Value b → a ≡ b
count_same a b e = cc

nodes_same : (a b : List Node) → tree_lines a ≡ tree_lines b → a ≡ b
nodes_same [] [] e = refl
nodes_same [] (n ∷ b) e = absurd (cc)
nodes_same (m ∷ a) [] e = absurd (cc)
nodes_same (m ∷ a) (n ∷ b) e =
    let first = node_same m n (head_same e) in
    let more = nodes_same a b (tail_same e) in
    cc

counts_same : (a b : List Count) (m n : List Node) → count_lines a m ≡ count_lines b n → (a ≡ b) × (m ≡ n)
counts_same [] [] m n e = (refl, nodes_same m n e)
counts_same [] (d ∷ b) [] n e = absurd (cc)
counts_same [] (d ∷ b) (x ∷ m) n e = absurd (cc)
counts_same (c ∷ a) [] m [] e = absurd (cc)
counts_same (c ∷ a) [] m (y ∷ n) e = absurd (cc)
counts_same (c ∷ a) (d ∷ b) m n e =
    let first = count_same c d (head_same e) in
    let more = counts_same a b m n (tail_same e) in
    (cc, more.1)

pub record SameParts (bound reached : ℕ) (counts : List Count) (nodes : List Node) (certificate : Certificate) : Type 0 where
  pub bound_same : bound ≡ certificate.bound
  pub reached_same : reached ≡ certificate.reached
  pub counted_same : counts ≡ certificate.counts
  pub tree_same : nodes ≡ certificate.tree

bound_is : (a b : ℕ) → Bound a ≡ Bound b → a ≡ b
bound_is a b e = cc

reached_is : (a b : ℕ) → Reached a ≡ Reached b → a ≡ b
reached_is a b e = cc

pub parts_same : (bound reached : ℕ) (counts : List Count) (nodes : List Node) (certificate : Certificate) →
    all_lines bound reached counts nodes ≡ certificate_lines certificate → SameParts bound reached counts nodes certificate
parts_same bound reached counts nodes certificate e =
    let more = counts_same counts certificate.counts nodes certificate.tree (tail_same (tail_same e)) in
    record {
      bound_same = bound_is bound certificate.bound (head_same e);
      reached_same = reached_is reached certificate.reached (head_same (tail_same e));
      counted_same = more.0;
      tree_same = more.1;
    }
