-- Each answer is the first fault of the file under the profile, or an analysis of a file without one.
use Rattle.std.proofs.Common.{◌≡◌, Some, None, sym, subst, ◌∙◌}
use Rattle.std.specs.Bool.{OnFalse, OnTrue}
use Rattle.std.proofs.lemmas.Result.{err_from_is_err_and}
use Rattle.mips_machine.specs.Clash.{IsClash}
use Rattle.wcet_engine.specs.FileFaults.{IsUnbuilt, entry_of}
use Rattle.wcet_engine.proofs.FileFaultLemmas.{IsReadAs, IsTaken, answers-analysed, answers-refused, first-clash, first-symbol, first-unbuilt, no-entry, tells-bad}
use Rattle.mips_machine.proofs.LeastLemmas.{finds-none}
use Rattle.wcet_engine.proofs.analysis.analyse_bytes.Goals as goal

pub returns-in_err-image-clause-refused : goal.returns-in_err-image-clause-refused
returns-in_err-image-clause-refused c =
    let p = err_from_is_err_and c.from_residual.result c.from_residual.ensures.1 in
    rw (p.1, p.2) (tells-bad c.args.elf.now c.args.profile.now _ c.in_err-image.ensures.err)

pub returns-in_default-clause-refused : goal.returns-in_default-clause-refused
returns-in_default-clause-refused c =
    let image = c.in_ok-image.image in
    let is : IsReadAs c.args.elf.now image = record { clean = c.in_ok-image.ensures.sound; read = c.in_ok-image.ensures.image } in
    let none : entry_of image c.args.profile.now ≡ None = sym c.entry_of.ensures ∙ no-entry c.entry_of.result c.in_default.not-Some in
    rw c.at.ensures (first-symbol c.args.elf.now c.args.profile.now image is none)

pub returns-in-Some-clash_place-clause-refused : goal.returns-in-Some-clash_place-clause-refused
returns-in-Some-clash_place-clause-refused c =
    let image = c.in_ok-image.image in
    let is : IsReadAs c.args.elf.now image = record { clean = c.in_ok-image.ensures.sound; read = c.in_ok-image.ensures.image } in
    let enters : entry_of image c.args.profile.now ≡ Some c.in-Some.entry = sym c.entry_of.ensures ∙ c.in-Some.is in
    rw c.at-in-Some-clash_place.ensures
    (first-clash c.args.elf.now c.args.profile.now image c.in-Some.entry c.in-Some-clash_place.place is enters c.in-Some-clash_place.ensures.least)

pub returns-then-is_unbuilt-clause-refused : goal.returns-then-is_unbuilt-clause-refused
returns-then-is_unbuilt-clause-refused c =
    let image = c.in_ok-image.image in
    let profile = c.args.profile.now in
    let is : IsReadAs c.args.elf.now image = record { clean = c.in_ok-image.ensures.sound; read = c.in_ok-image.ensures.image } in
    let enters : entry_of image profile ≡ Some c.in-Some.entry = sym c.entry_of.ensures ∙ c.in-Some.is in
    let apart = finds-none (IsClash image profile) c.clash_place.result c.in_default-clash_place.not-Some c.clash_place.ensures.least in
    rw c.at-then-is_unbuilt.ensures (first-unbuilt c.args.elf.now profile image c.in-Some.entry is enters apart
    (subst (λ yes. OnTrue yes (IsUnbuilt profile)) c.if-is_unbuilt.true c.is_unbuilt.ensures.unbuilt))

pub analyse_program-requires : goal.analyse_program-requires
analyse_program-requires c =
    subst (λ yes. OnFalse yes (IsUnbuilt c.args.profile.now → ⊥)) c.if-is_unbuilt.false c.is_unbuilt.ensures.built

pub returns-clause-refused : goal.returns-clause-refused
returns-clause-refused c =
    let image = c.in_ok-image.image in
    let profile = c.args.profile.now in
    let taken : IsTaken c.args.elf.now profile image c.in-Some.entry = record {
      is = record { clean = c.in_ok-image.ensures.sound; read = c.in_ok-image.ensures.image };
      enters = sym c.entry_of.ensures ∙ c.in-Some.is;
      apart = finds-none (IsClash image profile) c.clash_place.result c.in_default-clash_place.not-Some c.clash_place.ensures.least;
      built = subst (λ yes. OnFalse yes (IsUnbuilt profile → ⊥)) c.if-is_unbuilt.false c.is_unbuilt.ensures.built;
    } in
    answers-refused c.args.elf.now profile image c.in-Some.entry c.analyse_program.result taken c.analyse_program.ensures.refused

pub returns-clause-analysed : goal.returns-clause-analysed
returns-clause-analysed c =
    let image = c.in_ok-image.image in
    let profile = c.args.profile.now in
    let taken : IsTaken c.args.elf.now profile image c.in-Some.entry = record {
      is = record { clean = c.in_ok-image.ensures.sound; read = c.in_ok-image.ensures.image };
      enters = sym c.entry_of.ensures ∙ c.in-Some.is;
      apart = finds-none (IsClash image profile) c.clash_place.result c.in_default-clash_place.not-Some c.clash_place.ensures.least;
      built = subst (λ yes. OnFalse yes (IsUnbuilt profile → ⊥)) c.if-is_unbuilt.false c.is_unbuilt.ensures.built;
    } in
    answers-analysed c.args.elf.now profile image c.in-Some.entry c.analyse_program.result taken c.analyse_program.ensures.analysed
