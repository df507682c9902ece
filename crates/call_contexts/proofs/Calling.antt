-- Lists of calls with the positions of the called functions' graphs.
use Rattle.std.proofs.Common.{◌≡◌, ℕ, ◌+◌, ◌<◌, List, [], ◌∷◌, ◌++◌, length, map, get_or, slice_get, take, All, Some, sym, ap, subst, ◌∙◌}
use Rattle.std.proofs.lemmas.List.{append_assoc, map_more, map_push, take_more}
use Rattle.std.proofs.lemmas.List.Elements.{All-push}
use Rattle.std.proofs.lemmas.Option.{get_or_from_slice_get, slice_get_within}
use Rattle.std.specs.List.{AllZip}
use Rattle.step_table.proofs.Positions.{zip_push}
use Rattle.mips_decode.specs.Transfer.{Call}
use Rattle.unit_graph.specs.declared.graph.Graph.{Graph}
use Rattle.call_contexts.specs.Counting.{AreCalled, IsGraphAt, call_of}
use Rattle.call_contexts.specs.declared.calls.Called.{Called}

-- One more call.
pub called_push : (graphs : List Graph) (calls : List Call) (called : List Called) (one : Called) → AreCalled graphs calls called →
    IsGraphAt graphs one.target one.graph → AreCalled graphs (calls ++ call_of one ∷ []) (called ++ one ∷ [])
called_push graphs calls called one are placed = record {
  same = map_push call_of called one ∙ ap (λ (front : List Call). front ++ call_of one ∷ []) are.same;
  placed = All-push (λ (c : Called). IsGraphAt graphs c.target c.graph) called one are.placed placed;
}

abbrev pub call_to : (site : ℕ) → ℕ → Call
call_to site callee = record { site = site; target = callee }

-- The calls of a site, one more.
pub called_more : (graphs : List Graph) (calls : List Call) (site : ℕ) (targets : List ℕ) (i : ℕ) (called : List Called) (graph : ℕ) →
    i < length targets → IsGraphAt graphs (get_or targets i 0) graph →
    AreCalled graphs (calls ++ map (call_to site) (take i targets)) called →
    AreCalled graphs (calls ++ map (call_to site) (take (i + 1) targets))
    (called ++ record { site = site; target = get_or targets i 0; graph = graph } ∷ [])
called_more graphs calls site targets i called graph inside placed are =
    subst (λ (given : List Call). AreCalled graphs given (called ++ record { site = site; target = get_or targets i 0; graph = graph } ∷ [])) e
    (called_push graphs (calls ++ map (call_to site) (take i targets)) called (record { site = site; target = get_or targets i 0; graph = graph }) are placed)
  where
    e : (calls ++ map (call_to site) (take i targets)) ++ call_to site (get_or targets i 0) ∷ [] ≡ calls ++ map (call_to site) (take (i + 1) targets)
    e = append_assoc calls (map (call_to site) (take i targets)) (call_to site (get_or targets i 0) ∷ [])
        ∙ ap (λ (back : List Call). calls ++ back) (sym (map_more (call_to site) targets i 0 inside))

-- What holds of all holds of the one that is read.
pub read_all : {T : Type 0} (P : T → Type 0) (items : List T) (i : ℕ) (item : T) → All P items → i < length items → item ≡ get_or items i item → P item
read_all P items i item each inside is = subst P (sym is) (each i item inside)

-- One more pair of two lists.
pub zip_next : {A B : Type 0} (R : A → B → Type 0) (xs : List A) (i : ℕ) (x : A) → i < length xs → x ≡ get_or xs i x →
    (ys : List B) (y : B) (later : List B) → AllZip R (take i xs) ys → R x y → later ≡ ys ++ y ∷ [] → AllZip R (take (i + 1) xs) later
zip_next {A} {B} R xs i x inside is ys y later zip one e =
    subst (λ (bs : List B). AllZip R (take (i + 1) xs) bs) (sym e)
    (subst (λ (given : List A). AllZip R given (ys ++ y ∷ [])) (sym (take_more xs i x inside ∙ ap (λ (z : A). take i xs ++ z ∷ []) (sym is)))
    (zip_push R (take i xs) ys x y zip one))

pub at_all : {T : Type 0} (P : T → Type 0) (items : List T) (i : ℕ) (item : T) → All P items → slice_get items i ≡ Some item → P item
at_all P items i item each there = subst P (get_or_from_slice_get items i item item there) (each i item (slice_get_within items i item there))
