-- The node of a row is that of the unit at its address.
use Rattle.std.proofs.Common.{◌≡◌, ℕ, List, [], ◌∷◌, ◌++◌, sym, subst, ap, ◌∙◌}
use Rattle.std.specs.Prelude.{Contains, IfOk, Result, Ok, Err}
use Rattle.std.specs.List.{AllZip}
use Rattle.std.proofs.lemmas.List.Elements.{All-contains}
use Rattle.elf_mips.specs.declared.image.Image.{Image}
use Rattle.net_model.specs.declared.unit.CodeUnit.{CodeUnit}
use Rattle.net_model.specs.declared.unit.Content.TheVariants.{Unit as Stands}
use Rattle.net_model.specs.Functions.{CallsAt, GoesOn}
use Rattle.net_model.specs.Onward.{load_of}
use Rattle.net_model.specs.Targets.{unit_at}
use Rattle.unit_graph.specs.Flow.{Follows}
use Rattle.unit_graph.specs.Graphs.{AreJust, IsNodeAt}
use Rattle.unit_graph.specs.Inference.{AreReturning}
use Rattle.unit_graph.specs.Nodes.{IsNodeOf}
use Rattle.unit_graph.specs.Rows.{AreRows, HasRow, HasUnit, IsRow}
use Rattle.unit_graph.specs.declared.node.Unit.{Unit as Node}
use Rattle.unit_graph.specs.declared.rows.Row.{Row}
use Rattle.unit_graph.proofs.Behind.{same_row}
use Rattle.unit_graph.proofs.Flowing.{at_calls, calls_at, follows_goes, goes_follows}
use Rattle.unit_graph.proofs.Sets.{AreJust-same}

node_here : (image : Image) (entry : ℕ) (rows : List Row) (returning : List ℕ) (row : Row) (unit : CodeUnit) (node : Node) →
    AreRows image entry rows → AreReturning image rows returning → Contains rows row → row.content ≡ Stands unit →
    IsNodeOf returning row unit node → IsNodeAt image row.address node
node_here image entry rows returning row unit node are returns listed stands of =
    let has : HasRow rows row.address = record { row = row; listed = listed; same = λ i. row.address } in
    record {
      same = of.address;
      unit = unit;
      stands = ap (unit_at image) of.address ∙ sym (All-contains (IsRow image) rows row are.each listed).content ∙ stands;
      described = record {
        slot = of.slot;
        returns = of.returns;
        skips = of.skips;
        load = of.load ∙ ap (load_of unit) (sym of.address);
        onward = subst (λ (a : ℕ). AreJust (GoesOn image a) node.onward) (sym of.address)
            (AreJust-same (Follows returning row) (GoesOn image row.address) node.onward
            (λ x h. follows_goes image entry rows returning row x are returns listed h)
            (λ x h. goes_follows image entry rows returning row.address x are returns has h)
            of.onward);
        calls = subst (λ (a : ℕ). AreJust (CallsAt image a) node.calls) (sym of.address)
            (AreJust-same (Contains row.calls) (CallsAt image row.address) node.calls
            (λ x h. calls_at image entry rows row x are listed h)
            (λ x h. at_calls image entry rows row.address x are has h)
            of.calls);
      };
    }

pub IfOk-node : {E : Type 0} (rows : List Row) (returning : List ℕ) (address : ℕ) (row : Row) (unit : CodeUnit) (result : Result Node E) →
    Contains rows row → row.address ≡ address → row.content ≡ Stands unit → IfOk result (IsNodeOf returning row unit) →
    IfOk result (λ (node : Node). (image : Image) (entry : ℕ) → AreRows image entry rows → AreReturning image rows returning →
    IsNodeAt image address node)
IfOk-node rows returning address row unit (Ok node) listed same stands of = λ image entry are returns.
    subst (λ (a : ℕ). IsNodeAt image a node) same (node_here image entry rows returning row unit node are returns listed stands of)
IfOk-node rows returning address row unit (Err error) listed same stands of = tt

-- The row that is found is the one whose unit stands there.
pub found_stands : (rows : List Row) (address : ℕ) (row : Row) (image : Image) (entry : ℕ) → AreRows image entry rows → (has : HasUnit rows address) →
    Contains rows row → row.address ≡ address → row.content ≡ Stands has.unit
found_stands rows address row image entry are has listed same =
    subst (λ (r : Row). r.content ≡ Stands has.unit)
    (same_row rows row has.has.row are.rising listed has.has.listed (same ∙ sym has.has.same))
    has.stands

pub AllZip-push : {X Y : Type 0} (R : X → Y → Type 0) (xs : List X) (ys : List Y) (x : X) (y : Y) → AllZip R xs ys → R x y →
    AllZip R (xs ++ x ∷ []) (ys ++ y ∷ [])
AllZip-push R [] [] x y zip more = (more, tt)
AllZip-push R [] (other ∷ ys) x y zip more = absurd zip
AllZip-push R (one ∷ xs) [] x y zip more = absurd zip
AllZip-push R (one ∷ xs) (other ∷ ys) x y zip more = (zip.0, AllZip-push R xs ys x y zip.1 more)
