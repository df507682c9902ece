-- The graphs of the functions but the entry's, one after another.
use Rattle.std.proofs.Common.{◌≡◌, ℕ, ◌<◌, List, [], ◌∷◌, ◌++◌, All, map, length, get_or, refl, ap, sym, subst, ◌∙◌, arith, inl, inr, ◌⊎◌, length-append}
use Rattle.std.specs.Prelude.{AllPairs, Contains}
use Rattle.std.proofs.lemmas.Bool.{cases_eq}
use Rattle.std.proofs.lemmas.List.{append-nil, append_assoc, get_or_append_left, map-append}
use Rattle.std.proofs.lemmas.List.Elements.{All-cons, All-contains, All-nil, All-push, All-weaker, Contains-append_left, Contains-append_right, Contains-push}
use Rattle.std.proofs.lemmas.List.Quantifiers.{all_pairs_push}
use Rattle.elf_mips.specs.declared.image.Image.{Image}
use Rattle.net_model.specs.Functions.{IsFunction, main}
use Rattle.unit_graph.specs.Graphs.{AreGraphs, AreJust, IsGraph, IsGraphIn}
use Rattle.unit_graph.specs.Program.{AreGraphsOf}
use Rattle.unit_graph.specs.declared.graph.Graph.{Graph}

abbrev entry_of : Graph → ℕ
entry_of g = g.entry

pub of_nobody : (image : Image) (entry : ℕ) (graphs : List Graph) → AreGraphsOf image entry [] graphs graphs
of_nobody image entry graphs = record {
  others = [];
  parts = sym (append-nil graphs);
  each = All-nil (λ (g : Graph). IsGraph image g.entry g);
  apart = All-nil (λ (g : Graph). g.entry ≡ entry → ⊥);
  among = All-nil (λ (g : Graph). Contains [] g.entry);
  whole = All-nil (λ function. (function ≡ entry → ⊥) → Contains (map entry_of []) function);
  rising = λ rises i j d less inside. absurd (omega arith);
}

front_rises : (xs : List ℕ) (x : ℕ) → AllPairs (λ (a b : ℕ). a < b) (xs ++ x ∷ []) → AllPairs (λ (a b : ℕ). a < b) xs
front_rises xs x rises i j d less inside =
    let n = length-append xs (x ∷ []) in
    let pair = rises i j d less (omega (arith, n)) in
    subst (λ (a : ℕ). a < get_or xs j d) (get_or_append_left xs (x ∷ []) d i (omega arith))
    (subst (λ (b : ℕ). get_or (xs ++ x ∷ []) i d < b) (get_or_append_left xs (x ∷ []) d j inside) pair)

last_is : (xs : List ℕ) (x d : ℕ) → get_or (xs ++ x ∷ []) (length xs) d ≡ x
last_is [] x d = refl
last_is (y ∷ xs) x d = last_is xs x d

last_greater : (xs : List ℕ) (x y : ℕ) → AllPairs (λ (a b : ℕ). a < b) (xs ++ x ∷ []) → Contains xs y → y < x
last_greater xs x y rises (k, inside, e) =
    let n = length-append xs (x ∷ []) in
    let pair = rises k (length xs) y inside (omega (arith, n)) in
    subst (λ (a : ℕ). a < x) (get_or_append_left xs (x ∷ []) y k inside ∙ e)
    (subst (λ (b : ℕ). get_or (xs ++ x ∷ []) k y < b) (last_is xs x y) pair)

pub of_skip : (image : Image) (entry : ℕ) (functions : List ℕ) (function : ℕ) (before later : List Graph) → function ≡ entry →
    AreGraphsOf image entry functions before later → AreGraphsOf image entry (functions ++ function ∷ []) before later
of_skip image entry functions function before later e of = record {
  others = of.others;
  parts = of.parts;
  each = of.each;
  apart = of.apart;
  among =
      All-weaker (λ (g : Graph). Contains functions g.entry) (λ (g : Graph). Contains (functions ++ function ∷ []) g.entry)
      (λ g h. Contains-append_left functions (function ∷ []) g.entry h) of.others of.among;
  whole =
      All-push (λ f. (f ≡ entry → ⊥) → Contains (map entry_of of.others) f) functions function of.whole (λ differ. absurd (differ e));
  rising = λ rises. of.rising (front_rises functions function rises);
}

pub of_push : (image : Image) (entry : ℕ) (functions : List ℕ) (function : ℕ) (before middle later : List Graph) (graph : Graph) →
    (function ≡ entry → ⊥) → AreGraphsOf image entry functions before middle → IsGraph image function graph →
    later ≡ middle ++ graph ∷ [] → AreGraphsOf image entry (functions ++ function ∷ []) before later
of_push image entry functions function before middle later graph differ of is e = record {
  others = of.others ++ graph ∷ [];
  parts = e ∙ ap (λ (gs : List Graph). gs ++ graph ∷ []) of.parts ∙ append_assoc before of.others (graph ∷ []);
  each = All-push (λ (g : Graph). IsGraph image g.entry g) of.others graph of.each (subst (λ (f : ℕ). IsGraph image f graph) (sym is.begins) is);
  apart = All-push (λ (g : Graph). g.entry ≡ entry → ⊥) of.others graph of.apart (λ same. differ (sym is.begins ∙ same));
  among =
      All-push (λ (g : Graph). Contains (functions ++ function ∷ []) g.entry) of.others graph
      (All-weaker (λ (g : Graph). Contains functions g.entry) (λ (g : Graph). Contains (functions ++ function ∷ []) g.entry)
      (λ g h. Contains-append_left functions (function ∷ []) g.entry h) of.others of.among)
      (subst (Contains (functions ++ function ∷ [])) (sym is.begins) (Contains-push functions function));
  whole =
      All-push (λ f. (f ≡ entry → ⊥) → Contains (map entry_of (of.others ++ graph ∷ [])) f) functions function
      (All-weaker (λ f. (f ≡ entry → ⊥) → Contains (map entry_of of.others) f) (λ f. (f ≡ entry → ⊥) → Contains (map entry_of (of.others ++ graph ∷ [])) f)
      (λ f h apart. subst (λ (xs : List ℕ). Contains xs f) (sym (map-append entry_of of.others (graph ∷ [])))
      (Contains-append_left (map entry_of of.others) (graph.entry ∷ []) f (h apart))) functions of.whole)
      (λ apart. subst (λ (xs : List ℕ). Contains xs function) (sym (map-append entry_of of.others (graph ∷ [])))
      (subst (Contains (map entry_of of.others ++ graph.entry ∷ [])) is.begins (Contains-push (map entry_of of.others) graph.entry)));
  rising = λ rises.
      all_pairs_push (λ (g h : Graph). g.entry < h.entry) of.others graph (of.rising (front_rises functions function rises))
      (λ k d inside. subst (λ (x : ℕ). (get_or of.others k d).entry < x) (sym is.begins)
      (last_greater functions function (get_or of.others k d).entry rises (of.among k d inside)));
}

-- The entry's graph, and the others behind it.
pub AreGraphs-listed : (image : Image) (entry : ℕ) (functions : List ℕ) (first : Graph) (before graphs : List Graph) →
    AreJust (IsFunction image entry) functions → IsGraph image entry first → before ≡ first ∷ [] →
    AreGraphsOf image entry functions before graphs → AreGraphs image entry (record { graphs = graphs })
AreGraphs-listed image entry functions first before graphs just is e of = record {
  first = first;
  others = of.others;
  parts = parts;
  begins = is.begins;
  rising = of.rising just.rising;
  apart = of.apart;
  each = subst (All (IsGraphIn image entry)) (sym parts)
      (All-cons (IsGraphIn image entry) first of.others
      (record {
        function = subst (IsFunction image entry) (sym is.begins) main;
        is = subst (λ (f : ℕ). IsGraph image f first) (sym is.begins) is;
      })
      (λ k d l. record {
        function = just.sound (get_or of.others k d).entry (of.among k d l);
        is = of.each k d l;
      }));
  whole = λ function there. subst (λ (gs : List Graph). Contains (map entry_of gs) function) (sym parts) (by_case function there (cases_eq function entry));
}
  where
    parts : graphs ≡ first ∷ of.others
    parts = of.parts ∙ ap (λ (gs : List Graph). gs ++ of.others) e

    by_case : (function : ℕ) → IsFunction image entry function → (function ≡ entry) ⊎ (function ≡ entry → ⊥) →
        Contains (map entry_of (first ∷ of.others)) function
    by_case function there (inl same) = (0, omega arith, is.begins ∙ sym same)
    by_case function there (inr differ) =
        Contains-append_right (first.entry ∷ []) (map entry_of of.others) function
        (All-contains (λ f. (f ≡ entry → ⊥) → Contains (map entry_of of.others) f) functions function of.whole (just.whole function there) differ)
