-- What the positions of a graph say of the addresses of the image.
use Rattle.std.proofs.Common.{◌≡◌, ℕ, ◌<◌, List, [], ◌∷◌, map, length, get_or, Some, refl, sym, subst, ap, ◌∙◌, arith}
use Rattle.std.specs.Prelude.{Contains, slice_get, zero, suc}
use Rattle.std.specs.List.{AllZip}
use Rattle.std.proofs.lemmas.List.{length-map}
use Rattle.std.proofs.lemmas.Option.{none-some, same_Some, slice_get-get_or, slice_get_within}
use Rattle.std.proofs.lemmas.List.Elements.{All-contains}
use Rattle.elf_mips.specs.declared.image.Image.{Image}
use Rattle.net_model.specs.Functions.{IsReached}
use Rattle.net_model.specs.Functions.{first, next}
use Rattle.net_model.specs.Functions.{GoesOn}
use Rattle.net_model.specs.Loops.{IsBackArc, IsReachedWithout}
use Rattle.unit_graph.specs.declared.graph.Graph.{Graph}
use Rattle.unit_graph.specs.declared.node.Unit.{Unit as Node}
use Rattle.unit_graph.specs.Graphs.{IsGraph, IsNode}
use Rattle.loop_nest.specs.Arcs.{IsBack}
use Rattle.step_table.specs.Table.{AreMet, AreStepsTo, IsMet, IsStep}
use Rattle.loop_nest.specs.Table.{IsTableOf}
use Rattle.loop_nest.proofs.Bounding.{address_of, node_is, place_is}
use Rattle.loop_nest.proofs.Dominance.{goes-reached}
use Rattle.step_table.proofs.Meeting.{a_step}
use Rattle.step_table.proofs.Positions.{contains_at, place_of, Rises, same_place}
use Rattle.step_table.proofs.Seen.{alone, itself}

-- A graph with the addresses of its units, the table of its steps and the position of its entry.
pub record IsLaid (image : Image) (entry : ℕ) (graph : Graph) (addresses : List ℕ) (table : List (List ℕ)) (start : ℕ) : Type 0 where
  pub graphed : IsGraph image entry graph
  pub are : addresses ≡ map address_of graph.units
  pub rising : Rises addresses
  pub follows : IsTableOf addresses graph.units table
  pub begins : slice_get addresses start ≡ Some entry

zip_left : {A B : Type 0} (R : A → B → Type 0) (xs : List A) (ys : List B) → AllZip R xs ys → (k : ℕ) (x : A) →
    slice_get xs k ≡ Some x → (y : B) × (slice_get ys k ≡ Some y) × R x y
zip_left R [] [] all k x h = absurd (none-some x h)
zip_left R [] (b ∷ ys) all k x h = absurd all
zip_left R (a ∷ xs) [] all k x h = absurd all
zip_left {A} R (a ∷ xs) (b ∷ ys) all zero x h = (b, refl, subst (λ (one : A). R one b) (same_Some a x h) all.0)
zip_left R (a ∷ xs) (b ∷ ys) all (suc k) x h = zip_left R xs ys all.1 k x h

zip_right : {A B : Type 0} (R : A → B → Type 0) (xs : List A) (ys : List B) → AllZip R xs ys → (k : ℕ) (y : B) →
    slice_get ys k ≡ Some y → (x : A) × (slice_get xs k ≡ Some x) × R x y
zip_right R [] [] all k y h = absurd (none-some y h)
zip_right R [] (b ∷ ys) all k y h = absurd all
zip_right R (a ∷ xs) [] all k y h = absurd all
zip_right {A} {B} R (a ∷ xs) (b ∷ ys) all zero y h = (a, refl, subst (λ (one : B). R a one) (same_Some b y h) all.0)
zip_right R (a ∷ xs) (b ∷ ys) all (suc k) y h = zip_right R xs ys all.1 k y h

pub zip_length : {A B : Type 0} (R : A → B → Type 0) (xs : List A) (ys : List B) → AllZip R xs ys → length ys ≡ length xs
zip_length R [] [] all = refl
zip_length R [] (b ∷ ys) all = absurd all
zip_length R (a ∷ xs) [] all = absurd all
zip_length R (a ∷ xs) (b ∷ ys) all = omega (arith, zip_length R xs ys all.1)

abbrev Steps : List ℕ → Node → List ℕ → Type 0
Steps addresses node steps = AreStepsTo addresses node.onward steps

pub is_node : (image : Image) (entry : ℕ) (graph : Graph) → IsGraph image entry graph → (k : ℕ) (node : Node) →
    slice_get graph.units k ≡ Some node → IsNode image entry node
is_node image entry graph graphed k node there =
    All-contains (IsNode image entry) graph.units node graphed.nodes (contains_at graph.units k node there)

pub count_is : (image : Image) (entry : ℕ) (graph : Graph) (addresses : List ℕ) (table : List (List ℕ)) (start : ℕ) →
    IsLaid image entry graph addresses table start → length table ≡ length addresses
count_is image entry graph addresses table start laid =
    omega (
      arith,
      zip_length (Steps addresses) graph.units table laid.follows,
      ap length laid.are ∙ length-map graph.units address_of,
    )

pub same_at : (addresses : List ℕ) (k a b : ℕ) → slice_get addresses k ≡ Some a → slice_get addresses k ≡ Some b → a ≡ b
same_at addresses k a b h other = same_Some a b (sym h ∙ other)

-- The address at a position is reached, and each reached address has its position.
pub reached_at : (image : Image) (entry : ℕ) (graph : Graph) (addresses : List ℕ) (table : List (List ℕ)) (start : ℕ) →
    IsLaid image entry graph addresses table start → (k a : ℕ) → slice_get addresses k ≡ Some a → IsReached image entry a
reached_at image entry graph addresses table start laid k a h =
    let (node, there, same) = node_is graph.units addresses (record { are = laid.are; rising = laid.rising }) k a h in
    subst (IsReached image entry) same (is_node image entry graph laid.graphed k node there).reached

pub place_at : (image : Image) (entry : ℕ) (graph : Graph) (addresses : List ℕ) (table : List (List ℕ)) (start : ℕ) →
    IsLaid image entry graph addresses table start → (a : ℕ) → IsReached image entry a → (k : ℕ) × (slice_get addresses k ≡ Some a)
place_at image entry graph addresses table start laid a reached =
    place_of addresses a (subst (λ (xs : List ℕ). Contains xs a) (sym laid.are) (laid.graphed.whole a reached))

-- Steps and arcs.
pub step_goes : (image : Image) (entry : ℕ) (graph : Graph) (addresses : List ℕ) (table : List (List ℕ)) (start : ℕ) →
    IsLaid image entry graph addresses table start → (i j : ℕ) → IsStep table i j →
    (a : ℕ) × (b : ℕ) × (slice_get addresses i ≡ Some a) × (slice_get addresses j ≡ Some b) × GoesOn image a b
step_goes image entry graph addresses table start laid i j step =
    let (node, there, are) = zip_right (Steps addresses) graph.units table laid.follows i step.steps step.there in
    let (b, at, among) = (are j).0 step.goes in
    let is = is_node image entry graph laid.graphed i node there in (
      node.address,
      b,
      place_is graph.units addresses (record { are = laid.are; rising = laid.rising }) i node there,
      at,
      is.described.onward.sound b among,
    )

pub goes_step : (image : Image) (entry : ℕ) (graph : Graph) (addresses : List ℕ) (table : List (List ℕ)) (start : ℕ) →
    IsLaid image entry graph addresses table start → (i j a b : ℕ) → slice_get addresses i ≡ Some a →
    slice_get addresses j ≡ Some b → GoesOn image a b → IsStep table i j
goes_step image entry graph addresses table start laid i j a b ati atj on =
    let (node, there, same) = node_is graph.units addresses (record { are = laid.are; rising = laid.rising }) i a ati in
    let (steps, at, are) = zip_left (Steps addresses) graph.units table laid.follows i node there in
    let is = is_node image entry graph laid.graphed i node there in
    a_step table i j steps at
    ((are j).1 (b, atj, is.described.onward.whole b (subst (λ (x : ℕ). GoesOn image x b) (sym same) on)))

pub goes_at : (image : Image) (entry : ℕ) (graph : Graph) (addresses : List ℕ) (table : List (List ℕ)) (start : ℕ) →
    IsLaid image entry graph addresses table start → (i j a b : ℕ) → slice_get addresses i ≡ Some a →
    slice_get addresses j ≡ Some b → IsStep table i j → GoesOn image a b
goes_at image entry graph addresses table start laid i j a b ati atj step =
    let (x, y, atx, aty, on) = step_goes image entry graph addresses table start laid i j step in
    subst (λ (from : ℕ). GoesOn image from b) (same_at addresses i x a atx ati)
    (subst (GoesOn image x) (same_at addresses j y b aty atj) on)

-- All positions are met.
pub met_all : (image : Image) (entry : ℕ) (graph : Graph) (addresses : List ℕ) (table : List (List ℕ)) (start : ℕ) →
    IsLaid image entry graph addresses table start → AreMet table start
met_all image entry graph addresses table start laid x inside =
    let (a, at) = address_there x (omega (arith, inside, count_is image entry graph addresses table start laid)) in
    met a (reached_at image entry graph addresses table start laid x a at) x at
  where
    address_there : (k : ℕ) → k < length addresses → (a : ℕ) × (slice_get addresses k ≡ Some a)
    address_there k less = (get_or addresses k 0, slice_get-get_or addresses k 0 less)

    low : (k a : ℕ) → slice_get addresses k ≡ Some a → k ≡ length table → ⊥
    low k a at e =
        omega (arith, e, slice_get_within addresses k a at, count_is image entry graph addresses table start laid)

    met : (a : ℕ) → IsReached image entry a → (k : ℕ) → slice_get addresses k ≡ Some a →
        IsMet table (start ∷ []) (length table) k
    met _ (first _) k at =
        let same : start ≡ k = same_place addresses laid.rising start k entry laid.begins at in
        IsMet.begins k (subst (Contains (start ∷ [])) same (itself start)) (low k entry at)
    met _ (next _ a later reached on) k at =
        let (i, ati) = place_at image entry graph addresses table start laid a reached in
        IsMet.goes i k (met a reached i ati)
        (goes_step image entry graph addresses table start laid i k a later ati at on)
        (low k later at)

-- What is met without a header is reached without it.
pub met_without : (image : Image) (entry : ℕ) (graph : Graph) (addresses : List ℕ) (table : List (List ℕ)) (start : ℕ) →
    IsLaid image entry graph addresses table start → (h hd : ℕ) → slice_get addresses h ≡ Some hd → (x : ℕ) →
    IsMet table (start ∷ []) h x → (a : ℕ) × (slice_get addresses x ≡ Some a) × IsReachedWithout image entry hd a
met_without image entry graph addresses table start laid h hd ath _ (IsMet.begins x among free) =
    let at : slice_get addresses x ≡ Some entry =
    subst (λ (k : ℕ). slice_get addresses k ≡ Some entry) (alone start x among) laid.begins in (
      entry,
      at,
      IsReachedWithout.begins (λ e. free (same_place addresses laid.rising x h hd
          (subst (λ (b : ℕ). slice_get addresses x ≡ Some b) e at) ath)),
    )
met_without image entry graph addresses table start laid h hd ath _ (IsMet.goes from to met step free) =
    let (a, ata, without) = met_without image entry graph addresses table start laid h hd ath from met in
    let (x, b, atx, atb, on) = step_goes image entry graph addresses table start laid from to step in (
      b,
      atb,
      IsReachedWithout.goes a b without (subst (λ (y : ℕ). GoesOn image y b) (same_at addresses from x a atx ata) on)
          (λ e. free (same_place addresses laid.rising to h hd
          (subst (λ (y : ℕ). slice_get addresses to ≡ Some y) e atb) ath)),
    )

pub without_reached : (image : Image) (entry header address : ℕ) → IsReachedWithout image entry header address →
    IsReached image entry address
without_reached image entry header _ (IsReachedWithout.begins apart) = first entry
without_reached image entry header _ (IsReachedWithout.goes address later without on apart) =
    goes-reached image entry address later (without_reached image entry header address without) on

pub without_met : (image : Image) (entry : ℕ) (graph : Graph) (addresses : List ℕ) (table : List (List ℕ)) (start : ℕ) →
    IsLaid image entry graph addresses table start → (h hd : ℕ) → slice_get addresses h ≡ Some hd → (a : ℕ) →
    IsReachedWithout image entry hd a → (x : ℕ) → slice_get addresses x ≡ Some a → IsMet table (start ∷ []) h x
without_met image entry graph addresses table start laid h hd ath _ (IsReachedWithout.begins apart) x at =
    let same : start ≡ x = same_place addresses laid.rising start x entry laid.begins at in
    IsMet.begins x (subst (Contains (start ∷ [])) same (itself start))
    (λ e. apart (same_at addresses h entry hd (subst (λ (k : ℕ). slice_get addresses k ≡ Some entry) e at) ath))
without_met image entry graph addresses table start laid h hd ath _ (IsReachedWithout.goes address later without on apart) x at =
    let (y, aty) = place_at image entry graph addresses table start laid address (without_reached image entry hd address without) in
    IsMet.goes y x (without_met image entry graph addresses table start laid h hd ath address without y aty)
    (goes_step image entry graph addresses table start laid y x address later aty at on)
    (λ e. apart (same_at addresses h later hd (subst (λ (k : ℕ). slice_get addresses k ≡ Some later) e at) ath))

-- Back arcs.
pub back_arc : (image : Image) (entry : ℕ) (graph : Graph) (addresses : List ℕ) (table : List (List ℕ)) (start : ℕ) →
    IsLaid image entry graph addresses table start → (i h a hd : ℕ) → slice_get addresses i ≡ Some a →
    slice_get addresses h ≡ Some hd → IsBack table start i h → IsBackArc image entry a hd
back_arc image entry graph addresses table start laid i h a hd ati ath back = record {
  reached = reached_at image entry graph addresses table start laid i a ati;
  goes = goes_at image entry graph addresses table start laid i h a hd ati ath back.goes;
  behind = λ without. back.behind (without_met image entry graph addresses table start laid h hd ath a without i ati);
}

pub arc_back : (image : Image) (entry : ℕ) (graph : Graph) (addresses : List ℕ) (table : List (List ℕ)) (start : ℕ) →
    IsLaid image entry graph addresses table start → (i h a hd : ℕ) → slice_get addresses i ≡ Some a →
    slice_get addresses h ≡ Some hd → IsBackArc image entry a hd → IsBack table start i h
arc_back image entry graph addresses table start laid i h a hd ati ath arc = record {
  goes = goes_step image entry graph addresses table start laid i h a hd ati ath arc.goes;
  behind = λ met. let (b, atb, without) = met_without image entry graph addresses table start laid h hd ath i met in
      arc.behind (subst (IsReachedWithout image entry hd) (same_at addresses i b a atb ati) without);
}
