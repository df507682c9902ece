-- A run that breaks a rule doesn't keep all of them.
use Rattle.std.proofs.Common.{◌≡◌, ℕ, List, [], ◌∷◌, ◌++◌, All, refl, ap, sym, subst, ◌∙◌}
use Rattle.std.proofs.lemmas.List.{append_assoc}
use Rattle.std.proofs.lemmas.List.Elements.{All-head, All-tail}
use Rattle.elf_mips.specs.declared.image.Image.{Image}
use Rattle.mips_decode.specs.Calls.{ReturnsToCaller}
use Rattle.mips_decode.specs.Records.{KeepsTargets}
use Rattle.mips_decode.specs.Units.{RunUnit}
use Rattle.net_model.specs.Targets.{targets_at}
use Rattle.image_run.specs.declared.report.BrokenKind.{BrokenKind}
use Rattle.image_run.specs.declared.report.BrokenKind.TheVariants as broken
use Rattle.image_run.specs.declared.report.Verdict.{Verdict}
use Rattle.image_run.specs.declared.report.Verdict.TheVariants.{Kept, Broken}
use Rattle.image_run.specs.Ranges.{KeepsRange, ranges_at}
use Rattle.image_run.specs.Verdicts.{Breaks, IsBroken, IsVerdict, KeepAll, KeepLoops}

at-unit : {T : Type 0} (P : T → Type 0) (front : List T) (unit : T) (rest : List T) → All P (front ++ unit ∷ rest) → P unit
at-unit P [] unit rest all = All-head P unit rest all
at-unit P (x ∷ front) unit rest all = at-unit P front unit rest (All-tail P x (front ++ unit ∷ rest) all)

-- The loops are kept up to each unit.
loops-front : (image : Image) (entry : ℕ) (front : List RunUnit) (unit : RunUnit) (rest : List RunUnit) →
    KeepLoops image entry (front ++ unit ∷ rest) → KeepLoops image entry (front ++ unit ∷ [])
loops-front image entry front unit rest keeps net is first later parts places are =
    keeps net is first (later ++ rest)
    (sym (append_assoc front (unit ∷ []) rest) ∙ ap (λ (us : List RunUnit). us ++ rest) parts ∙ append_assoc first later rest) places are

not-kept : (image : Image) (entry : ℕ) (kind : BrokenKind) (front : List RunUnit) (unit : RunUnit) (rest : List RunUnit) (address : ℕ) →
    Breaks kind image entry front unit address → KeepAll image entry (front ++ unit ∷ rest) → ⊥
not-kept image entry broken.Loop front unit rest address breaks kept =
    breaks.breaks (loops-front image entry front unit rest kept.records.bounds)
not-kept image entry broken.Target front unit rest address breaks kept =
    breaks.breaks (at-unit (λ (u : RunUnit). KeepsTargets (targets_at image u.at.address) u.step) front unit rest kept.records.targets)
not-kept image entry broken.Range front unit rest address breaks kept =
    breaks.breaks (at-unit (λ (u : RunUnit). KeepsRange (ranges_at image) u.at.address u.step) front unit rest kept.ranges)
not-kept image entry broken.Return front unit rest address breaks kept =
    breaks.breaks (at-unit (λ (u : RunUnit). ReturnsToCaller u.at.calls u.step) front unit rest kept.callers)

pub broken-not-kept : (image : Image) (entry : ℕ) (units : List RunUnit) (kind : BrokenKind) (address : ℕ) →
    IsBroken image entry units kind address → KeepAll image entry units → ⊥
broken-not-kept image entry units kind address is kept =
    not-kept image entry kind is.front is.unit is.rest address is.breaks (subst (KeepAll image entry) is.parts kept)

-- So the verdict is that they are kept exactly where they are.
pub kept-verdict : (image : Image) (entry : ℕ) (units : List RunUnit) (verdict : Verdict) → IsVerdict image entry units verdict →
    KeepAll image entry units → verdict ≡ Kept
kept-verdict image entry units Kept is kept = refl
kept-verdict image entry units (Broken kind address) is kept = absurd (broken-not-kept image entry units kind address is kept)
