-- The first fault of several lists of faults, one after another.
use Rattle.std.proofs.Common.{◌≡◌, ℕ, ◌+◌, ◌<◌, ◌≤◌, le-leb, List, [], ◌∷◌, ◌++◌, length, map, get_or, take, drop, Option, refl, sym, ◌∙◌}
use Rattle.std.proofs.lemmas.List.{length-map, take-map, drop_more}
use Rattle.toml.specs.Data.{Data}
use Rattle.toml.specs.View.{view}
use Rattle.toml.specs.declared.value.Value.{Value}
use Rattle.cache_config.specs.declared.fault.Fault.{Fault}
use Rattle.cache_config.specs.Faults.{JointRule, element_faults, numbered, shape_faults}
use Rattle.cache_config.specs.Firsts.{earlier, first_of}
use Rattle.cache_config.specs.Keys.{Tables}

pub first_of-append : (seen : Option Fault) (xs ys : List Fault) → first_of seen (xs ++ ys) ≡ first_of (first_of seen xs) ys
first_of-append seen [] ys = refl
first_of-append seen (x ∷ xs) ys = first_of-append (earlier seen x) xs ys

-- The rule by which the check reads two lists, one after another.
pub ruleset appended = first_of-append

pub first_of-five : (seen : Option Fault) (a b c d e : List Fault) →
    first_of seen (a ++ (b ++ (c ++ (d ++ e)))) ≡ first_of (first_of (first_of (first_of (first_of seen a) b) c) d) e
first_of-five seen a b c d e =
    first_of-append seen a (b ++ (c ++ (d ++ e)))
    ∙ first_of-append (first_of seen a) b (c ++ (d ++ e))
    ∙ first_of-append (first_of (first_of seen a) b) c (d ++ e)
    ∙ first_of-append (first_of (first_of (first_of seen a) b) c) d e

-- The faults of an element, where there aren't too many.
pub first_of-element : (seen : Option Fault) (tables : Tables) (rule : JointRule) (values : List Value) (at : ℕ) (value : Value) → length values ≤ tables.most →
    first_of (first_of seen (shape_faults tables at (view value))) (rule (map view (take at values)) at (view value))
    ≡ first_of seen (element_faults tables rule (map view values) at (view value))
first_of-element seen tables rule values at value few =
    let fits = le-leb (length values) tables.most few in
    rw (length-map values view, fits, take-map view at values)
    (sym (first_of-append seen (shape_faults tables at (view value)) (rule (map view (take at values)) at (view value))))

-- The faults of the elements from one on: its own, and those of the elements behind it.
pub numbered-drop : (faults : ℕ → Data → List Fault) (seen : Option Fault) (values : List Value) (at : ℕ) (value : Value) →
    at < length values → get_or values at value ≡ value →
    first_of seen (numbered faults at (map view (drop at values)))
    ≡ first_of (first_of seen (faults at (view value))) (numbered faults (at + 1) (map view (drop (at + 1) values)))
numbered-drop faults seen values at value low is =
    rw (drop_more values at value low, is)
    (first_of-append seen (faults at (view value)) (numbered faults (at + 1) (map view (drop (at + 1) values))))
