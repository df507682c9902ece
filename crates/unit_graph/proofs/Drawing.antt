-- The nodes of the units to which a function leads are the graph of the function.
use Rattle.std.proofs.Common.{◌≡◌, ℕ, ◌<◌, Bool, List, [], ◌∷◌, map, length, get_or, zero, suc, refl, ap, sym, subst, ◌∙◌, arith}
use Rattle.std.specs.List.{AllZip, list_any}
use Rattle.std.specs.Prelude.{AllPairs, Contains}
use Rattle.std.proofs.lemmas.List.{get_or_default}
use Rattle.elf_mips.specs.declared.image.Image.{Image}
use Rattle.net_model.specs.Functions.{IsReached}
use Rattle.unit_graph.specs.Flow.{Leads}
use Rattle.unit_graph.specs.Graphs.{IsGraph, IsNodeAt}
use Rattle.unit_graph.specs.Inference.{AreReturning}
use Rattle.unit_graph.specs.Program.{AreUnits}
use Rattle.unit_graph.specs.Rows.{AreRows}
use Rattle.unit_graph.specs.Search.{AreLed, begins}
use Rattle.unit_graph.specs.declared.flow.Reach.TheVariants.{Function}
use Rattle.unit_graph.specs.declared.node.Unit.{Unit as Node}
use Rattle.unit_graph.specs.declared.rows.Row.{Row}
use Rattle.unit_graph.proofs.Flowing.{led_reached, reached_led}

-- The nodes have these addresses.
same_addresses : (image : Image) (addresses : List ℕ) (nodes : List Node) → AllZip (IsNodeAt image) addresses nodes →
    addresses ≡ map (λ (node : Node). node.address) nodes
same_addresses image [] [] zip = refl
same_addresses image [] (node ∷ nodes) zip = absurd zip
same_addresses image (a ∷ addresses) [] zip = absurd zip
same_addresses image (a ∷ addresses) (node ∷ nodes) zip =
    ap (λ (x : ℕ). x ∷ addresses) (sym zip.0.same)
    ∙ ap (λ (rest : List ℕ). node.address ∷ rest) (same_addresses image addresses nodes zip.1)

same_length : (image : Image) (addresses : List ℕ) (nodes : List Node) → AllZip (IsNodeAt image) addresses nodes →
    length addresses ≡ length nodes
same_length image [] [] zip = refl
same_length image [] (node ∷ nodes) zip = absurd zip
same_length image (a ∷ addresses) [] zip = absurd zip
same_length image (a ∷ addresses) (node ∷ nodes) zip = ap (λ (n : ℕ). suc n) (same_length image addresses nodes zip.1)

at : (image : Image) (addresses : List ℕ) (nodes : List Node) (k : ℕ) (a : ℕ) (d : Node) → AllZip (IsNodeAt image) addresses nodes →
    k < length nodes → IsNodeAt image (get_or addresses k a) (get_or nodes k d)
at image [] [] k a d zip l = absurd (omega arith)
at image [] (node ∷ nodes) k a d zip l = absurd zip
at image (one ∷ addresses) [] k a d zip l = absurd zip
at image (one ∷ addresses) (node ∷ nodes) zero a d zip l = zip.0
at image (one ∷ addresses) (node ∷ nodes) (suc k) a d zip l = at image addresses nodes k a d zip.1 (omega arith)

pub IsGraph-drawn : (image : Image) (entry : ℕ) (rows : List Row) (returning : List ℕ) (function : ℕ) (led addresses : List ℕ)
    (nodes units : List Node) (b : Bool) → AreRows image entry rows → AreReturning image rows returning → AreUnits rows returning function →
    AreLed (Leads rows returning Function) function led → addresses ≡ led → AllZip (IsNodeAt image) addresses nodes →
    units ≡ nodes → b ≡ list_any (λ (node : Node). node.returns) units →
    IsGraph image function (record { entry = function; units = nodes; can_return = b })
IsGraph-drawn image entry rows returning function led addresses nodes units b are returns are_units leads e zip same any =
    record {
      begins = refl;
      rising = λ i j d less l.
          let lesser = (at image addresses nodes i 0 d zip (omega arith)).same in
          let greater = (at image addresses nodes j 0 d zip l).same in
          subst (λ (x : ℕ). x < (get_or nodes j d).address) (sym lesser)
          (subst (λ (y : ℕ). get_or addresses i 0 < y) (sym greater) (rising i j 0 less (inside j l)));
      nodes = λ k d l.
          let is = at image addresses nodes k 0 d zip l in
          record {
            reached = subst (IsReached image function) (sym is.same)
                (led_reached image entry rows returning are returns function (get_or addresses k 0)
                (leads.sound (get_or addresses k 0) (subst (λ (xs : List ℕ). Contains xs (get_or addresses k 0)) e (k, inside k l, get_or_default addresses k (get_or addresses k 0) 0 (inside k l)))));
            unit = is.unit;
            stands = is.stands;
            described = is.described;
          };
      whole = λ address reached.
          subst (λ (xs : List ℕ). Contains xs address) (sym e ∙ same_addresses image addresses nodes zip)
          (leads.whole address (reached_led image entry rows returning Function are returns function address reached (are_units function begins).has).0);
      returning = any ∙ ap (λ (us : List Node). list_any (λ (node : Node). node.returns) us) same;
    }
  where
    rising : AllPairs (λ (x y : ℕ). x < y) addresses
    rising = subst (AllPairs (λ (x y : ℕ). x < y)) (sym e) leads.rising

    inside : (k : ℕ) → k < length nodes → k < length addresses
    inside k l = let n : length addresses ≡ length nodes = same_length image addresses nodes zip in omega arith
