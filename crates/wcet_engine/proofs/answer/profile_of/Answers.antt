-- The text's first fault is the first one of the files.
use Rattle.std.proofs.Common.{◌≡◌, ℕ, List, Option, Some, ap, subst}
use Rattle.std.specs.Prelude.{option_map}
use Rattle.std.specs.declared.alloc.Global.{Global}
use Rattle.std.specs.declared.vec.Vec.{Vec}
use Rattle.std.proofs.lemmas.Result.{err_from_is_err_and}
use Rattle.cache_config.specs.Profiles.{Tells}
use Rattle.wcet_engine.specs.Given.{Fits, given, given_of}
use Rattle.wcet_engine.proofs.ConfigFaultLemmas.{tells-config}
use Rattle.wcet_engine.proofs.answer.profile_of.Goals as goal

pub returns-in_err-read_profile-in-Some-clause-refused : goal.returns-in_err-read_profile-in-Some-clause-refused
returns-in_err-read_profile-in-Some-clause-refused c =
    let elf : List ℕ = c.args.contents.now.elf.items in
    let text : List ℕ = c.in-Some.text.items in
    let same : given_of c.args.contents.now ≡ given elf (Some text) =
    ap (λ (config : Option (Vec ℕ Global)). given elf (option_map (λ (bytes : Vec ℕ Global). bytes.items) config)) c.in-Some.is in
    let told = subst (λ (bytes : List ℕ). Tells bytes c.in_err-read_profile-in-Some.field-0.0) c.deref.ensures.value c.in_err-read_profile-in-Some.ensures.fault in
    let p = err_from_is_err_and c.from_residual.result c.from_residual.ensures.1 in
    rw (p.1, p.2, same) (tells-config elf text _ (subst Fits same c.requires) told)
