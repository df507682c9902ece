-- Each unit that can return is seen when none waits.
use Rattle.std.proofs.Common.{◌≡◌, ℕ, ◌+◌, true, List, [], Some, None, sym, subst, ap, ◌∙◌, inl, inr}
use Rattle.std.specs.Prelude.{Contains}
use Rattle.std.proofs.lemmas.List.Elements.{All-contains}
use Rattle.elf_mips.specs.declared.image.Image.{Image}
use Rattle.net_model.specs.declared.unit.CodeUnit.{CodeUnit}
use Rattle.net_model.specs.declared.unit.Content.{Content}
use Rattle.net_model.specs.declared.unit.Content.TheVariants.{Unit as Stands}
use Rattle.net_model.specs.Flow.{called, ways_on}
use Rattle.net_model.specs.Functions.{CanReturn, GoesOn, IsReached, back, first, next, onward, returned}
use Rattle.net_model.specs.Onward.{returns}
use Rattle.net_model.specs.Targets.{unit_at}
use Rattle.unit_graph.specs.Inference.{AreReturning, AreRules, IsEnd, IsInferring, returns_at}
use Rattle.unit_graph.specs.Rows.{AreRows, HasRow, IsRow, calls_of_content, ways_of_content}
use Rattle.unit_graph.specs.declared.inference.Rule.{Rule}
use Rattle.unit_graph.specs.declared.rows.Row.{Row}
use Rattle.unit_graph.proofs.FarSight.{not_empty}
use Rattle.code_units.proofs.Lists.{in_none}

-- The row of an address at which a unit stands.
pub at_row : (image : Image) (rows : List Row) (entry address : ℕ) → AreRows image entry rows → (has : HasRow rows address) →
    IsRow image has.row × (has.row.content ≡ unit_at image address)
at_row image rows entry address are has =
    let is = All-contains (IsRow image) rows has.row are.each has.listed in
    (is, is.content ∙ ap (unit_at image) has.same)

pub row_goes : (image : Image) (rows : List Row) (entry address later : ℕ) (unit : CodeUnit) → AreRows image entry rows →
    (has : HasRow rows address) → unit_at image address ≡ Stands unit → Contains (ways_on image unit address) later →
    Contains has.row.onward later
row_goes image rows entry address later unit are has stands goes =
    let at = at_row image rows entry address are has in
    All-contains (Contains has.row.onward) (ways_of_content image has.row.content has.row.address) later at.0.onward.whole
    (subst (λ (a : ℕ). Contains (ways_of_content image has.row.content a) later) (sym has.same)
    (subst (λ (content : Content). Contains (ways_of_content image content address) later) (sym (at.1 ∙ stands)) goes))

pub row_calls : (image : Image) (rows : List Row) (entry address callee : ℕ) (unit : CodeUnit) → AreRows image entry rows →
    (has : HasRow rows address) → unit_at image address ≡ Stands unit → Contains (called image unit address) callee →
    Contains has.row.calls callee
row_calls image rows entry address callee unit are has stands calls =
    let at = at_row image rows entry address are has in
    All-contains (Contains has.row.calls) (calls_of_content image has.row.content has.row.address) callee at.0.calls.whole
    (subst (λ (a : ℕ). Contains (calls_of_content image has.row.content a) callee) (sym has.same)
    (subst (λ (content : Content). Contains (calls_of_content image content address) callee) (sym (at.1 ∙ stands)) calls))

-- What holds of the seen addresses when none waits.
pub record IsClosed (image : Image) (rows : List Row) (rules : List Rule) (seen : List ℕ) : Type 0 where
  pub entry : ℕ
  pub are : AreRows image entry rows
  pub ruled : AreRules rows rules
  pub ends : (address : ℕ) → IsEnd rows address → Contains seen address
  pub alone : (x y : ℕ) → Contains rules (record { given = x; other = None; then = y }) → Contains seen x → Contains seen y
  pub both : (x z y : ℕ) → Contains rules (record { given = x; other = Some z; then = y }) →
      Contains rules (record { given = z; other = Some x; then = y }) → Contains seen x → Contains seen z → Contains seen y

step_on : (image : Image) (rows : List Row) (rules : List Rule) (seen : List ℕ) → IsClosed image rows rules seen →
    (address later : ℕ) (unit : CodeUnit) → unit_at image address ≡ Stands unit → Contains (ways_on image unit address) later →
    HasRow rows address → HasRow rows later × (Contains seen later → Contains seen address)
step_on image rows rules seen closed address later unit stands goes has =
    let way = row_goes image rows closed.entry address later unit closed.are has stands goes in (
      closed.are.closed has.row has.listed later (inl way),
      λ h. closed.alone later address
          (closed.ruled.whole (record { given = later; other = None; then = address })
          (record {
            row = has.row;
            listed = has.listed;
            is = inl (record {
              later = later;
              goes = way;
              same = ap (λ (a : ℕ). record { given = later; other = None; then = a }) (sym has.same);
            });
          }))
          h,
    )

step_back : (image : Image) (rows : List Row) (rules : List Rule) (seen : List ℕ) → IsClosed image rows rules seen →
    (address callee : ℕ) (unit : CodeUnit) → unit_at image address ≡ Stands unit → Contains (called image unit address) callee →
    HasRow rows address →
    HasRow rows callee × (Contains seen callee → HasRow rows (address + 8) × (Contains seen (address + 8) → Contains seen address))
step_back image rows rules seen closed address callee unit stands calls has =
    let way = row_calls image rows closed.entry address callee unit closed.are has stands calls in (
      closed.are.closed has.row has.listed callee (inr (inl way)),
      λ can. (
        closed.are.closed has.row has.listed (address + 8)
            (inr (inr (not_empty has.row.calls callee way, ap (λ (a : ℕ). a + 8) (sym has.same)))),
        λ h. closed.both callee (address + 8) address
            (closed.ruled.whole (record { given = callee; other = Some (address + 8); then = address })
            (record {
              row = has.row;
              listed = has.listed;
              is = inr (record {
                callee = callee;
                called = way;
                same = inl (ap (λ (a : ℕ). record { given = callee; other = Some (a + 8); then = a }) (sym has.same));
              });
            }))
            (closed.ruled.whole (record { given = address + 8; other = Some callee; then = address })
            (record {
              row = has.row;
              listed = has.listed;
              is = inr (record {
                callee = callee;
                called = way;
                same = inr (ap (λ (a : ℕ). record { given = a + 8; other = Some callee; then = a }) (sym has.same));
              });
            }))
            can h,
      ),
    )

end_of : (image : Image) (rows : List Row) (entry address : ℕ) (unit : CodeUnit) → AreRows image entry rows →
    (has : HasRow rows address) → unit_at image address ≡ Stands unit → returns unit ≡ true → IsEnd rows address
end_of image rows entry address unit are has stands leaves =
    record {
      row = has.row;
      listed = has.listed;
      returns = ap returns_at ((at_row image rows entry address are has).1 ∙ stands) ∙ leaves;
      same = has.same;
    }

mutual
  -- Where a function is looked at, so is each unit that it reaches; where such a unit is seen, so is the function.
  pub reach : (image : Image) (rows : List Row) (rules : List Rule) (seen : List ℕ) → IsClosed image rows rules seen →
      (function address : ℕ) → IsReached image function address → HasRow rows function →
      HasRow rows address × (Contains seen address → Contains seen function)
  reach image rows rules seen closed _ _ (first _) has = (has, λ h. h)
  reach image rows rules seen closed _ _ (next function address later reached on) has =
      let before = reach image rows rules seen closed function address reached has in
      let step = go image rows rules seen closed address later on before.0 in
      (step.0, λ h. before.1 (step.1 h))

  pub go : (image : Image) (rows : List Row) (rules : List Rule) (seen : List ℕ) → IsClosed image rows rules seen →
      (address later : ℕ) → GoesOn image address later → HasRow rows address →
      HasRow rows later × (Contains seen later → Contains seen address)
  go image rows rules seen closed _ _ (onward address later unit stands goes) has =
      step_on image rows rules seen closed address later unit stands goes has
  go image rows rules seen closed _ _ (back address callee unit stands calls can) has =
      let step = step_back image rows rules seen closed address callee unit stands calls has in
      step.1 (come image rows rules seen closed callee can step.0)

  pub come : (image : Image) (rows : List Row) (rules : List Rule) (seen : List ℕ) → IsClosed image rows rules seen →
      (function : ℕ) → CanReturn image function → HasRow rows function → Contains seen function
  come image rows rules seen closed _ (returned function address unit reached stands leaves) has =
      let way = reach image rows rules seen closed function address reached has in
      way.1 (closed.ends address (end_of image rows closed.entry address unit closed.are way.0 stands leaves))

pub IsInferring-end : (rows : List Row) (rules : List Rule) (seen waiting : List ℕ) → AreRules rows rules →
    IsInferring rows rules seen waiting → waiting ≡ [] → (image : Image) (entry : ℕ) → AreRows image entry rows →
    AreReturning image rows seen
IsInferring-end rows rules seen waiting ruled state none image entry are = record {
  sound = state.sound image entry are;
  whole = λ x has can. come image rows rules seen closed x can has;
}
  where
    idle : (x : ℕ) → Contains waiting x → ⊥
    idle x h = in_none x (subst (λ (xs : List ℕ). Contains xs x) none h)

    closed : IsClosed image rows rules seen
    closed = record {
      entry = entry;
      are = are;
      ruled = ruled;
      ends = state.ends;
      alone = λ x y r h. elim (state.alone x y r h) [ inl p ↦ absurd (idle x p) | inr q ↦ q ];
      both = λ x z y r s h k. elim (state.both x z y r s h k) [
        | inl p ↦ elim p [ inl v ↦ absurd (idle x v) | inr w ↦ absurd (idle z w) ]
        | inr q ↦ q
      ];
    }
