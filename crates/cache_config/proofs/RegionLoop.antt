-- What holds while the regions of the elements are read, before the element of this number.
use Rattle.std.proofs.Common.{◌≡◌, ℕ, ◌+◌, ◌<◌, ◌≤◌, false, List, [], ◌∷◌, ◌++◌, length, map, get_or, take, drop, Some, refl}
use Rattle.std.proofs.lemmas.List.{take_more, map-append}
use Rattle.std.proofs.lemmas.List.Elements.{All-push}
use Rattle.std.proofs.lemmas.List.Quantifiers.{all_pairs_push}
use Rattle.std.specs.List.{All, AllPairs}
use Rattle.toml.specs.View.{view}
use Rattle.toml.specs.declared.value.Value.{Value}
use Rattle.cache_config.specs.declared.profile.Region.{Region}
use Rattle.cache_config.specs.declared.spans.Span.{Span}
use Rattle.cache_config.specs.Faults.{element_faults, numbered, place_rule}
use Rattle.cache_config.specs.Keys.{region_tables}
use Rattle.cache_config.specs.Limits.{AreApart, most_regions}
use Rattle.cache_config.specs.Profiles.{span}
use Rattle.cache_config.specs.Spans.{is_misplaced, span_of}
use Rattle.cache_config.proofs.EmptyLemmas.{free_at}
use Rattle.cache_config.proofs.PlaceLemmas.{placed}

pub record AreRead (stack : Span) (values : List Value) (at : ℕ) (regions : List Region) : Type 0 where
  pub left : numbered (element_faults region_tables (place_rule (Some stack)) (map view values)) at (map view (drop at values)) ≡ []
  pub so_far : map (λ r. Some (span r)) regions ≡ map span_of (map view (take at values))
  pub off_stack : All (λ r. AreApart stack.start stack.size r.start r.size) regions
  pub apart : AllPairs (λ r s. AreApart r.start r.size s.start s.size) regions

pub more_read : (stack : Span) (values : List Value) (at : ℕ) (value : Value) (regions : List Region) (r : Region) → length values ≤ most_regions →
    at < length values → get_or values at value ≡ value → AreRead stack values at regions → Some (span r) ≡ span_of (view value) →
    is_misplaced (Some stack) (map view (take at values)) (span r) ≡ false → AreRead stack values (at + 1) (regions ++ r ∷ [])
more_read stack values at value regions r few low is read same free =
    let fits = placed stack regions (map view (take at values)) r read.so_far free in
    let before = map view (take at values) in
    let spans : map span_of (map view (take (at + 1) values)) ≡ map span_of before ++ span_of (view value) ∷ []
    = rw (take_more values at value low, is, map-append view (take at values) (value ∷ []), map-append span_of before (view value ∷ [])) refl in
    record {
      left = (free_at region_tables (place_rule (Some stack)) values at value few low is read.left).rest;
      so_far = rw (map-append (λ q. Some (span q)) regions (r ∷ []), spans, read.so_far, same) refl;
      off_stack = All-push (λ q. AreApart stack.start stack.size q.start q.size) regions r read.off_stack fits.off_stack;
      apart = all_pairs_push (λ q s. AreApart q.start q.size s.start s.size) regions r read.apart fits.apart;
    }
