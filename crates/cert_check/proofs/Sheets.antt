-- Lines in their order: where they lead, and what they can still become.
use Rattle.std.proofs.Common.{◌≡◌, ℕ, zero, suc, ◌+◌, ◌<◌, ◌≤◌, Bool, true, false, List, [], ◌∷◌, ◌++◌, length, Option, Some, None, refl, sym, ap, subst, ◌∙◌, append_assoc, arith}
use Rattle.std.specs.Prelude.{◌&&◌, nat_le, nat_lt, pos, if◌then◌else◌}
use Rattle.std.specs.List.{AllByRecursion}
use Rattle.std.proofs.lemmas.List.{append-nil, length-append}
use Rattle.std.proofs.lemmas.List.Elements.{All-nil}
use Rattle.ipet_program.specs.declared.certificate.Node.TheVariants.{Split, End}
use Rattle.ipet_program.specs.declared.leaf.Leaf.{Leaf}
use Rattle.cert_check.specs.declared.line.Line.{Line}
use Rattle.cert_check.specs.declared.line.Line.TheVariants.{Bound, Reached, Value, Tree, Last}
use Rattle.cert_check.specs.declared.order.State.{State}
use Rattle.cert_check.specs.declared.order.State.TheVariants.{Begin, Bounded, Counts, Trees, Ended}
use Rattle.cert_check.specs.Lines.{FitsLine}
use Rattle.cert_check.specs.Order.{is_over, left_in, next}

-- The lines lead from one state to another.
abbrev pub Leads : State → List Line → State → Type 0
Leads from [] to = from ≡ to
Leads from (line ∷ more) to = (middle : State) × (next from line ≡ Some middle) × Leads middle more to

-- Lines that fit and come in their order, to the end.
pub record IsSheet (lines : List Line) : Type 0 where
  pub fit : AllByRecursion FitsLine lines
  pub order : Leads Begin lines Ended

pub same_state : (s t : State) → ◌≡◌ {A = Option State} (Some s) (Some t) → s ≡ t
same_state s t e = cc

pub no_state : (s : State) → ◌≡◌ {A = Option State} None (Some s) → ⊥
no_state s e = cc

pub leads_more : (from : State) (lines : List Line) (to : State) (line : Line) (later : State) →
    Leads from lines to → next to line ≡ Some later → Leads from (lines ++ line ∷ []) later
leads_more from [] to line later h e = (later, subst (λ (s : State). next s line ≡ Some later) (sym h) e, refl)
leads_more from (l ∷ lines) to line later h e = (h.0, h.1, leads_more h.0 lines to line later h.2 e)

leads_on : (from : State) (lines more : List Line) (middle to : State) →
    Leads from lines middle → Leads middle more to → Leads from (lines ++ more) to
leads_on from [] more middle to h k = subst (λ (s : State). Leads s more to) (sym h) k
leads_on from (l ∷ lines) more middle to h k = (h.0, h.1, leads_on h.0 lines more middle to h.2 k)

both_states : (a b : State) (o : Option State) → o ≡ Some a → o ≡ Some b → a ≡ b
both_states a b o e f = same_state a b (sym e ∙ f)

-- What goes on behind lines goes on from the state that they lead to.
pub leads_back : (from : State) (lines more : List Line) (middle to : State) →
    Leads from lines middle → Leads from (lines ++ more) to → Leads middle more to
leads_back from [] more middle to h k = subst (λ (s : State). Leads s more to) h k
leads_back from (l ∷ lines) more middle to h k =
    leads_back h.0 lines more middle to h.2
    (subst (λ (s : State). Leads s (lines ++ more) to) (both_states k.0 h.0 _ k.1 h.1) k.2)

pub leads_same : (from : State) (lines : List Line) (a b : State) → Leads from lines a → Leads from lines b → a ≡ b
leads_same from [] a b h k = sym h ∙ k
leads_same from (l ∷ lines) a b h k =
    leads_same h.0 lines a b h.2 (subst (λ (s : State). Leads s lines b) (both_states k.0 h.0 _ k.1 h.1) k.2)

pub fit_more : (lines more : List Line) → AllByRecursion FitsLine lines → AllByRecursion FitsLine more →
    AllByRecursion FitsLine (lines ++ more)
fit_more [] more h k = k
fit_more (l ∷ lines) more h k = (h.0, fit_more lines more h.1 k)

pub fit_there : (lines : List Line) (line : Line) (more : List Line) →
    AllByRecursion FitsLine (lines ++ line ∷ more) → FitsLine line
fit_there [] line more h = h.0
fit_there (l ∷ lines) line more h = fit_there lines line more h.1

-- Lines that go on from a state to the end.
record Completes (state : State) : Type 0 where
  more : List Line
  fit : AllByRecursion FitsLine more
  leads : Leads state more Ended

some_leaf : Leaf
some_leaf = record {
  denom = pos 0;
  empty = false;
  weights = [];
  rising = λ i j d lt le. absurd (omega arith);
  some = All-nil _;
  one = λ e. absurd (cc);
}

abbrev leaf_line : Line
leaf_line = Tree (End some_leaf)

fits_leaf : FitsLine leaf_line
unfolding some_leaf
fits_leaf = (record { sfits = Prim.omega arith }, tt)

trees : (left : ℕ) → Completes (Trees left)
trees zero = record { more = Last ∷ []; fit = (tt, tt); leads = (Ended, refl, refl) }
trees (suc left) =
    let c = trees left in
    record { more = leaf_line ∷ c.more; fit = (fits_leaf, c.fit); leads = (Trees left, refl, c.leads) }

counts : (low : ℕ) → Completes (Counts low)
counts low =
    let c = trees 0 in
    record { more = leaf_line ∷ c.more; fit = (fits_leaf, c.fit); leads = (Trees 0, refl, c.leads) }

completes : (state : State) → Completes state
completes Begin =
    let c = counts 0 in
    record {
      more = Bound 0 ∷ (Reached 0 ∷ c.more);
      fit = (Prim.omega arith, (Prim.omega arith, c.fit));
      leads = (Bounded, refl, (Counts 0, refl, c.leads));
    }
completes Bounded =
    let c = counts 0 in
    record { more = Reached 0 ∷ c.more; fit = (Prim.omega arith, c.fit); leads = (Counts 0, refl, c.leads) }
completes (Counts low) = counts low
completes (Trees left) = trees left
completes Ended = record { more = []; fit = tt; leads = refl }

-- Lines that lead to some state can become a sheet.
pub record BeginsSheet (lines : List Line) : Type 0 where
  pub more : List Line
  pub sheet : IsSheet (lines ++ more)

pub begins_sheet : (lines : List Line) (state : State) → AllByRecursion FitsLine lines → Leads Begin lines state → BeginsSheet lines
begins_sheet lines state fit leads =
    let c = completes state in
    record {
      more = c.more;
      sheet = record { fit = fit_more lines c.more fit c.fit; order = leads_on Begin lines c.more state Ended leads c.leads };
    }

not_true : true ≡ false → ⊥
not_true e = cc

-- A state that isn't the end is another one than the end.
pub still : (s : State) → is_over s ≡ false → s ≡ Ended → ⊥
still s e f = not_true (sym (ap is_over f) ∙ e)

pub over_is : (s : State) → is_over s ≡ true → s ≡ Ended
over_is Begin e = absurd (cc)
over_is Bounded e = absurd (cc)
over_is (Counts low) e = absurd (cc)
over_is (Trees left) e = absurd (cc)
over_is Ended e = refl

-- A line adds one tree at most to those that are to come.
few_by : (s t : State) (most : ℕ) → ◌≡◌ {A = Option State} (Some s) (Some t) → left_in s ≤ most → left_in t ≤ most
few_by s t most e h = subst (λ (u : State). left_in u ≤ most) (same_state s t e) h

few_if : (b : Bool) (s t : State) (most : ℕ) → left_in s ≤ most → (if b then Some s else None) ≡ Some t → left_in t ≤ most
few_if true s t most h e = few_by s t most e h
few_if false s t most h e = absurd (no_state t e)

pub few_left : (s t : State) (line : Line) → next s line ≡ Some t → left_in t ≤ left_in s + 1
few_left Begin t (Bound b) e = few_by Bounded t 1 e (Prim.omega arith)
few_left Begin t (Reached r) e = absurd (no_state t e)
few_left Begin t (Value c) e = absurd (no_state t e)
few_left Begin t (Tree n) e = absurd (no_state t e)
few_left Begin t Last e = absurd (no_state t e)
few_left Bounded t (Bound b) e = absurd (no_state t e)
few_left Bounded t (Reached r) e = few_by (Counts 0) t 1 e (Prim.omega arith)
few_left Bounded t (Value c) e = absurd (no_state t e)
few_left Bounded t (Tree n) e = absurd (no_state t e)
few_left Bounded t Last e = absurd (no_state t e)
few_left (Counts low) t (Bound b) e = absurd (no_state t e)
few_left (Counts low) t (Reached r) e = absurd (no_state t e)
few_left (Counts low) t (Value c) e =
    few_if (nat_le low c.column && nat_lt 0 c.number) (Counts (c.column + 1)) t 2 (Prim.omega arith) e
few_left (Counts low) t (Tree (Split column at)) e = few_by (Trees 2) t 2 e (Prim.omega arith)
few_left (Counts low) t (Tree (End leaf)) e = few_by (Trees 0) t 2 e (Prim.omega arith)
few_left (Counts low) t Last e = absurd (no_state t e)
few_left (Trees left) t (Bound b) e = absurd (no_state t e)
few_left (Trees left) t (Reached r) e = absurd (no_state t e)
few_left (Trees left) t (Value c) e = absurd (no_state t e)
few_left (Trees zero) t (Tree n) e = absurd (no_state t e)
few_left (Trees (suc left)) t (Tree (Split column at)) e = few_by (Trees (suc (suc left))) t (suc left + 1) e (Prim.omega arith)
few_left (Trees (suc left)) t (Tree (End leaf)) e = few_by (Trees left) t (suc left + 1) e (Prim.omega arith)
few_left (Trees zero) t Last e = few_by Ended t 1 e (Prim.omega arith)
few_left (Trees (suc left)) t Last e = absurd (no_state t e)
few_left Ended t line e = absurd (no_state t e)
