-- What the ELF file's bytes give under the profile is what the files give.
use Rattle.std.proofs.Common.{ℕ, List, IfOk, IfErr, subst}
use Rattle.wcet_engine.specs.FileFaults.{IsAnalysisFor, TellsFaultOf}
use Rattle.wcet_engine.specs.Given.{given_of}
use Rattle.wcet_engine.proofs.FaultLemmas.{answers-analysed, answers-refused}
use Rattle.wcet_engine.proofs.answer.analyse_files.Goals as goal

pub returns-clause-analysed : goal.returns-clause-analysed
returns-clause-analysed c =
    let profile = c.in_ok-profile.profile in
    answers-analysed (given_of c.args.contents.now) profile c.analyse_bytes.result c.requires c.in_ok-profile.ensures.gives
    (subst (λ (elf : List ℕ). IfOk c.analyse_bytes.result (IsAnalysisFor elf profile)) c.deref.ensures.value c.analyse_bytes.ensures.analysed)

pub returns-clause-refused : goal.returns-clause-refused
returns-clause-refused c =
    let profile = c.in_ok-profile.profile in
    answers-refused (given_of c.args.contents.now) profile c.analyse_bytes.result c.requires c.in_ok-profile.ensures.gives
    (subst (λ (elf : List ℕ). IfErr c.analyse_bytes.result (TellsFaultOf elf profile)) c.deref.ensures.value c.analyse_bytes.ensures.refused)
