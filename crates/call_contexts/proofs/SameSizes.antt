-- Images with the same contents and records have as many contexts and places.
use Rattle.std.proofs.Common.{ℕ, List}
use Rattle.std.proofs.lemmas.List.Elements.{All-weaker}
use Rattle.elf_mips.specs.declared.image.Image.{Image}
use Rattle.mips_decode.specs.Transfer.{Call}
use Rattle.net_model.proofs.SameCode.{IsSameCode, calls_at-same, can-same, function-same, reached-same}
use Rattle.net_model.proofs.SameNets.{turned}
use Rattle.call_contexts.specs.Programs.{HasNoReturn, HasTooMany}
use Rattle.call_contexts.specs.Sizes.{AddsUp, AreCallsOf, AreSizes, CountsUnits, IsCallOf}

call_of-same : (a b : Image) (function : ℕ) (call : Call) → IsSameCode a b → IsCallOf a function call → IsCallOf b function call
call_of-same a b function call same is = record {
  reached = reached-same a b same function call.site is.reached;
  calls = calls_at-same a b same call.site call.target is.calls;
}

calls_of-same : (a b : Image) (function : ℕ) (calls : List Call) → IsSameCode a b → AreCallsOf a function calls → AreCallsOf b function calls
calls_of-same a b function calls same are = record {
  rising = are.rising;
  sound = All-weaker (IsCallOf a function) (IsCallOf b function) (λ call is. call_of-same a b function call same is) calls are.sound;
  whole = λ call is. are.whole call (call_of-same b a function call (turned a b same) is);
}

units-same : (a b : Image) (entry : ℕ) (units : ℕ → ℕ) → IsSameCode a b → CountsUnits a entry units → CountsUnits b entry units
units-same a b entry units same counts = λ function addresses is are.
    counts function addresses (function-same b a (turned a b same) entry function is) (record {
      rising = are.rising;
      sound = λ x there. reached-same b a (turned a b same) function x (are.sound x there);
      whole = λ x reached. are.whole x (reached-same a b same function x reached);
    })

adds-same : (a b : Image) (entry : ℕ) (own total : ℕ → ℕ) → IsSameCode a b → AddsUp a entry own total → AddsUp b entry own total
adds-same a b entry own total same adds = λ function calls is are.
    adds function calls (function-same b a (turned a b same) entry function is) (calls_of-same b a function calls (turned a b same) are)

pub sizes-same : (a b : Image) (entry contexts places : ℕ) → IsSameCode a b → AreSizes a entry contexts places → AreSizes b entry contexts places
sizes-same a b entry contexts places same are = record {
  contexts_of = are.contexts_of;
  units_of = are.units_of;
  places_of = are.places_of;
  units = units-same a b entry are.units_of same are.units;
  contexts_add = adds-same a b entry (λ function. 1) are.contexts_of same are.contexts_add;
  places_add = adds-same a b entry are.units_of are.places_of same are.places_add;
  contexts_are = are.contexts_are;
  places_are = are.places_are;
}

pub no_return-same : (a b : Image) (entry : ℕ) → IsSameCode a b → HasNoReturn a entry → HasNoReturn b entry
no_return-same a b entry same none = λ can. none (can-same b a (turned a b same) entry can)

pub too_many-same : (a b : Image) (entry contexts places : ℕ) → IsSameCode a b → HasTooMany a entry contexts places →
    HasTooMany b entry contexts places
too_many-same a b entry contexts places same is = record {
  all_contexts = is.all_contexts;
  all_places = is.all_places;
  sizes = sizes-same a b entry is.all_contexts is.all_places same is.sizes;
  many = is.many;
  contexts_told = is.contexts_told;
  places_told = is.places_told;
}
