-- What was told of an answer is what was written for its files.
use Rattle.std.proofs.Common.{ℕ, inl, inr, List, Option, sym, subst}
use Rattle.wcet_engine.specs.declared.answer.Answer.{Answer}
use Rattle.wcet_engine.specs.declared.answer.Answer.TheVariants as answer
use Rattle.wcet_engine.specs.declared.top.Status.{Status}
use Rattle.wcet_engine.specs.declared.words.Command.{Command}
use Rattle.wcet_engine.specs.Answers.{IsAnswer}
use Rattle.wcet_engine.specs.Given.{Given}
use Rattle.wcet_engine.specs.Outcomes.{Told, Wrote}

pub told_wrote : (command : Command) (files : Option Given) (given : Answer) (status : Status) (before now : Option (List ℕ)) → IsAnswer files given →
    Told command given status before now → Wrote command files status before now
told_wrote command files (answer.Analysed analysis) status before now holds (inl (same, taken)) =
    subst (λ (s : Status). Wrote command files s before now) (sym same) (record { analysis = analysis; holds = holds; taken = taken })
told_wrote command files (answer.Refused refusal) status before now holds (inl (same, taken)) =
    subst (λ (s : Status). Wrote command files s before now) (sym same) (record { refusal = refusal; holds = holds; taken = taken })
told_wrote command files given status before now holds (inr (inl (same, taken))) =
    subst (λ (s : Status). Wrote command files s before now) (sym same) (record { given = given; holds = holds; taken = taken })
told_wrote command files given status before now holds (inr (inr (same, kept))) =
    subst (λ (s : Status). Wrote command files s before now) (sym same) kept
