-- The own loops of units, as they are written one after the other.
use Rattle.std.proofs.Common.{◌≡◌, ℕ, ◌+◌, ◌<◌, ◌≤◌, ◌⊎◌, inl, inr, List, length, set, slice_get, Option, Some, None, sym, ap, subst, ◌∙◌, arith}
use Rattle.std.specs.Prelude.{IfSome}
use Rattle.std.proofs.lemmas.Bool.{cases_eq, cases_lt}
use Rattle.std.proofs.lemmas.List.{length-set}
use Rattle.std.proofs.lemmas.Option.{same_Some}
use Rattle.loop_nest.specs.declared.nest.Loop.{Loop}
use Rattle.step_table.proofs.Seen.{slice_get-set_other, slice_get-set_same}
use Rattle.unit_graph.specs.declared.node.Unit.{Unit as Node}
use Rattle.call_contexts.specs.Around.{AreNearest, AreOwn, IsHeaderOf, IsNearestBy, IsOwnBy, Rise}
use Rattle.call_contexts.specs.Layout.{HasNode}
use Rattle.call_contexts.proofs.Nodes.{same_node}

-- Before the headers have their own loops.
pub own-none : (units : List Node) (loops : List Loop) (around : List (Option ℕ)) → AreNearest units loops (length loops) around →
    AreOwn units loops 0 around
own-none units loops around are = record {
  count = are.count;
  each = λ position found one there here.
      inr (λ at l less. absurd (omega (arith, less)), are.each position found one there here);
}

-- One header more.
own-later : (loops : List Loop) (done address : ℕ) (found : Option ℕ) → IsHeaderOf loops done address found → IsHeaderOf loops (done + 1) address found
own-later loops done address found (position, less, same, l) = (position, omega (arith, less), same, l)

by-later : (loops : List Loop) (done address : ℕ) (found : Option ℕ) (one : Loop) → slice_get loops done ≡ Some one → (one.header ≡ address → ⊥) →
    IsOwnBy loops done address found → IsOwnBy loops (done + 1) address found
by-later loops done address found one there apart (inl own) = inl (own-later loops done address found own)
by-later loops done address found one there apart (inr (none, near)) =
    inr (λ position l less at same. by_order position l at same (cases_lt position done) less, near) where
      by_order : (position : ℕ) (l : Loop) → slice_get loops position ≡ Some l → l.header ≡ address → ((position < done) ⊎ (done ≤ position)) →
          position < done + 1 → ⊥
      by_order position l at same (inl before) less = none position l before at same
      by_order position l at same (inr most) less =
          let place : position ≡ done = omega (arith, most, less) in
          let equal : one ≡ l = same_Some one l (sym there ∙ subst (λ (p : ℕ). slice_get loops p ≡ Some l) place at) in
          apart (ap (λ (m : Loop). m.header) equal ∙ same)

pub own-more : (units : List Node) (loops : List Loop) (done : ℕ) (around : List (Option ℕ)) (one : Loop) (place : ℕ) → Rise units →
    slice_get loops done ≡ Some one → HasNode units one.header place → place < length around →
    AreOwn units loops done around → AreOwn units loops (done + 1) (set around place (Some done))
own-more units loops done around one place rise there at within are = record {
  count = length-set around place (Some done) ∙ are.count;
  each = λ position found node here got. each_by position found node here got (cases_eq place position);
} where
  each_by : (position : ℕ) (found : Option ℕ) (node : Node) → slice_get units position ≡ Some node →
      slice_get (set around place (Some done)) position ≡ Some found →
      ((place ≡ position) ⊎ (place ≡ position → ⊥)) → IsOwnBy loops (done + 1) node.address found
  each_by position found node here got (inl same) =
      let equal : at.node ≡ node = same_Some at.node node (sym at.there ∙ subst (λ (p : ℕ). slice_get units p ≡ Some node) (sym same) here) in
      let value : Some done ≡ found =
      same_Some (Some done) found (sym (slice_get-set_same around place (Some done) within)
      ∙ subst (λ (p : ℕ). slice_get (set around place (Some done)) p ≡ Some found) (sym same) got) in
      inl (
        done,
        omega arith,
        sym value,
        (one, there, sym at.same ∙ ap (λ (n : Node). n.address) equal),
      )
  each_by position found node here got (inr differ) =
      by-later loops done node.address found one there
      (λ same. differ (same_node units place position at.node node rise at.there here (at.same ∙ same)))
      (are.each position found node here (sym (slice_get-set_other around place position (Some done) differ) ∙ got))

-- The innermost loop is one of the list.
pub nearest-less : (loops : List Loop) (done address : ℕ) (found : Option ℕ) → done < length loops → IsNearestBy loops done address found →
    IfSome found (λ at. at < length loops)
nearest-less loops done address None inside near = tt
nearest-less loops done address (Some at) inside near = let low = near.before in omega (arith, low, inside)
