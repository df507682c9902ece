-- The lines that a draft was read from.
use Rattle.std.proofs.Common.{◌≡◌, ℕ, zero, suc, ◌+◌, Bool, true, false, List, [], ◌∷◌, ◌++◌, Option, Some, None, refl, sym, ap, subst, ◌∙◌, append_assoc}
use Rattle.std.specs.Prelude.{◌&&◌, nat_le, nat_lt, map, if◌then◌else◌}
use Rattle.std.proofs.lemmas.List.{append-nil, map_push}
use Rattle.ipet_program.specs.declared.certificate.Node.TheVariants.{Split, End}
use Rattle.ipet_program.specs.declared.certificate.Node.{Node}
use Rattle.cert_check.specs.declared.draft.Draft.{Draft}
use Rattle.cert_check.specs.declared.line.Line.{Line}
use Rattle.cert_check.specs.declared.line.Line.TheVariants.{Bound, Reached, Value, Tree, Last}
use Rattle.cert_check.specs.declared.order.State.{State}
use Rattle.cert_check.specs.declared.order.State.TheVariants.{Begin, Bounded, Counts, Trees, Ended}
use Rattle.cert_check.specs.Drafts.{with_line}
use Rattle.cert_check.specs.Order.{is_over, next}
use Rattle.ipet_program.specs.Trees.{IsWhole}
use Rattle.cert_check.proofs.CertificateLines.{Rises, all_lawful, all_lines}
use Rattle.cert_check.proofs.Sheets.{Leads, same_state, no_state}

-- The lines of a draft in a state.
abbrev pub lines_by : State → Draft → List Line
lines_by Begin draft = []
lines_by Bounded draft = Bound draft.bound ∷ []
lines_by (Counts low) draft = Bound draft.bound ∷ (Reached draft.reached ∷ map Value draft.counts)
lines_by (Trees left) draft =
    Bound draft.bound ∷ (Reached draft.reached ∷ (map Value draft.counts ++ map Tree draft.tree))
lines_by Ended draft =
    Bound draft.bound ∷ (Reached draft.reached ∷ (map Value draft.counts ++ (map Tree draft.tree ++ Last ∷ [])))

-- What is to come isn't there yet.
abbrev pub IsEarly : State → Draft → Type 0
IsEarly Begin draft = (draft.counts ≡ []) × (draft.tree ≡ [])
IsEarly Bounded draft = (draft.counts ≡ []) × (draft.tree ≡ [])
IsEarly (Counts low) draft = draft.tree ≡ []
IsEarly (Trees left) draft = Unit {0}
IsEarly Ended draft = Unit {0}

-- A step adds the line.
pub record Adds (from : State) (draft : Draft) (line : Line) (to : State) : Type 0 where
  pub lines : lines_by to (with_line draft line) ≡ lines_by from draft ++ line ∷ []
  pub early : IsEarly to (with_line draft line)

by_state : (from : State) (draft : Draft) (line : Line) (s t : State) → ◌≡◌ {A = Option State} (Some s) (Some t) →
    Adds from draft line s → Adds from draft line t
by_state from draft line s t e h = subst (λ (u : State). Adds from draft line u) (same_state s t e) h

by_test : (b : Bool) (from : State) (draft : Draft) (line : Line) (s t : State) →
    (if b then Some s else None) ≡ Some t → Adds from draft line s → Adds from draft line t
by_test true from draft line s t e h = by_state from draft line s t e h
by_test false from draft line s t e h = absurd (no_state t e)

-- The first node.
first_node : (draft : Draft) (low left : ℕ) (node : Node) → draft.tree ≡ [] → Adds (Counts low) draft (Tree node) (Trees left)
first_node draft low left node e = record {
  lines =
      ap (λ (nodes : List Node). Bound draft.bound ∷ (Reached draft.reached ∷ (map Value draft.counts ++ map Tree (nodes ++ node ∷ [])))) e;
  early = tt;
}

more_node : (draft : Draft) (left later : ℕ) (node : Node) → Adds (Trees left) draft (Tree node) (Trees later)
more_node draft left later node = record {
  lines =
      ap (λ (t : List Line). Bound draft.bound ∷ (Reached draft.reached ∷ t))
      (ap (λ (t : List Line). map Value draft.counts ++ t) (map_push Tree draft.tree node)
      ∙ sym (append_assoc (map Value draft.counts) (map Tree draft.tree) (Tree node ∷ [])));
  early = tt;
}

pub adds : (from : State) (draft : Draft) (line : Line) (to : State) → IsEarly from draft → next from line ≡ Some to →
    Adds from draft line to
adds Begin draft (Bound b) to early e = by_state Begin draft (Bound b) Bounded to e (record { lines = refl; early = early })
adds Begin draft (Reached r) to early e = absurd (no_state to e)
adds Begin draft (Value c) to early e = absurd (no_state to e)
adds Begin draft (Tree n) to early e = absurd (no_state to e)
adds Begin draft Last to early e = absurd (no_state to e)
adds Bounded draft (Bound b) to early e = absurd (no_state to e)
adds Bounded draft (Reached r) to early e =
    by_state Bounded draft (Reached r) (Counts 0) to e
    (record { lines = rw early.0 refl; early = early.1 })
adds Bounded draft (Value c) to early e = absurd (no_state to e)
adds Bounded draft (Tree n) to early e = absurd (no_state to e)
adds Bounded draft Last to early e = absurd (no_state to e)
adds (Counts low) draft (Bound b) to early e = absurd (no_state to e)
adds (Counts low) draft (Reached r) to early e = absurd (no_state to e)
adds (Counts low) draft (Value c) to early e =
    by_test (nat_le low c.column && nat_lt 0 c.number) (Counts low) draft (Value c) (Counts (c.column + 1)) to e
    (record { lines = ap (λ (t : List Line). Bound draft.bound ∷ (Reached draft.reached ∷ t)) (map_push Value draft.counts c); early = early })
adds (Counts low) draft (Tree (Split column at)) to early e =
    by_state (Counts low) draft (Tree (Split column at)) (Trees 2) to e (first_node draft low 2 (Split column at) early)
adds (Counts low) draft (Tree (End leaf)) to early e =
    by_state (Counts low) draft (Tree (End leaf)) (Trees 0) to e (first_node draft low 0 (End leaf) early)
adds (Counts low) draft Last to early e = absurd (no_state to e)
adds (Trees left) draft (Bound b) to early e = absurd (no_state to e)
adds (Trees left) draft (Reached r) to early e = absurd (no_state to e)
adds (Trees left) draft (Value c) to early e = absurd (no_state to e)
adds (Trees zero) draft (Tree n) to early e = absurd (no_state to e)
adds (Trees (suc left)) draft (Tree (Split column at)) to early e =
    by_state (Trees (suc left)) draft (Tree (Split column at)) (Trees (suc (suc left))) to e (more_node draft (suc left) (suc (suc left)) (Split column at))
adds (Trees (suc left)) draft (Tree (End leaf)) to early e =
    by_state (Trees (suc left)) draft (Tree (End leaf)) (Trees left) to e (more_node draft (suc left) left (End leaf))
adds (Trees zero) draft Last to early e =
    by_state (Trees zero) draft Last Ended to e
    (record {
      lines =
          ap (λ (t : List Line). Bound draft.bound ∷ (Reached draft.reached ∷ t))
          (sym (append_assoc (map Value draft.counts) (map Tree draft.tree) (Last ∷ [])));
      early = tt;
    })
adds (Trees (suc left)) draft Last to early e = absurd (no_state to e)
adds Ended draft line to early e = absurd (no_state to e)

-- At the end a draft has all lines of a certificate.
pub ended_lines : (state : State) (draft : Draft) → is_over state ≡ true →
    lines_by state draft ≡ all_lines draft.bound draft.reached draft.counts draft.tree
ended_lines Begin draft e = absurd (cc)
ended_lines Bounded draft e = absurd (cc)
ended_lines (Counts low) draft e = absurd (cc)
ended_lines (Trees left) draft e = absurd (cc)
ended_lines Ended draft e = refl

-- It is lawful.
pub ended_lawful : (state : State) (draft : Draft) → is_over state ≡ true → Leads Begin (lines_by state draft) state →
    Rises 0 draft.counts × IsWhole draft.tree
ended_lawful Begin draft e h = absurd (cc)
ended_lawful Bounded draft e h = absurd (cc)
ended_lawful (Counts low) draft e h = absurd (cc)
ended_lawful (Trees left) draft e h = absurd (cc)
ended_lawful Ended draft e h = all_lawful draft.bound draft.reached draft.counts draft.tree h
