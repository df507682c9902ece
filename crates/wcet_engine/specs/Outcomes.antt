-- What the sink holds after a call, by its status.
use Rattle.std.specs.Prelude.{◌≡◌, ℕ, ◌⊎◌, List, Option}
use Rattle.std.specs.Io.KnownBytes.{Appends}
use Rattle.wcet_io.specs.Fronts.{AppendsFront}
use Rattle.wcet_engine.specs.declared.analysis.Analysis.{Analysis}
use Rattle.wcet_engine.specs.declared.answer.Answer.{Answer}
use Rattle.wcet_engine.specs.declared.answer.Answer.TheVariants as answer
use Rattle.wcet_engine.specs.declared.refusal.Refusal.{Refusal}
use Rattle.wcet_engine.specs.declared.top.Status.{Status}
use Rattle.wcet_engine.specs.declared.top.Status.TheVariants.{Done, Usage, Refused, ReadFault, WriteFault, Memory, Open, Rejected}
use Rattle.wcet_engine.specs.declared.words.Command.{Command}
use Rattle.wcet_engine.specs.Answers.{IsAnswer}
use Rattle.wcet_engine.specs.Given.{Given}
use Rattle.wcet_engine.specs.Texts.{text_of}

-- The files were analysed, and the lines of the analysis were taken whole.
pub record TakesAnalysis (command : Command) (files : Option Given) (before now : Option (List ℕ)) : Type 0 where
  pub analysis : Analysis
  pub holds : IsAnswer files (answer.Analysed analysis)
  pub taken : Appends before now (text_of command (answer.Analysed analysis))

-- The files have a first fault, and its refusal was taken whole.
pub record TakesRefusal (command : Command) (files : Option Given) (before now : Option (List ℕ)) : Type 0 where
  pub refusal : Refusal
  pub holds : IsAnswer files (answer.Refused refusal)
  pub taken : Appends before now (text_of command (answer.Refused refusal))

-- A front of the answer's text was taken.
pub record TakesFront (command : Command) (files : Option Given) (before now : Option (List ℕ)) : Type 0 where
  pub given : Answer
  pub holds : IsAnswer files given
  pub taken : AppendsFront before now (text_of command given)

-- The status of an answer that was taken whole.
abbrev pub status_of : Answer → Status
status_of (answer.Analysed analysis) = Done
status_of (answer.Refused refusal) = Refused

-- What a sink holds after the text of an answer was written to it: it took the text whole, or a front of it, or no text
-- was made for want of memory.
abbrev pub Told : Command → Answer → Status → Option (List ℕ) → Option (List ℕ) → Type 0
Told command given status before now =
    ((status ≡ status_of given) × Appends before now (text_of command given))
    ⊎ (((status ≡ WriteFault) × AppendsFront before now (text_of command given)) ⊎ ((status ≡ Memory) × (now ≡ before)))

-- What was written to a command for these files. What the sink held before stays in front.
abbrev pub Wrote : Command → Option Given → Status → Option (List ℕ) → Option (List ℕ) → Type 0
Wrote command files Done before now = TakesAnalysis command files before now
Wrote command files Refused before now = TakesRefusal command files before now
Wrote command files WriteFault before now = TakesFront command files before now
Wrote command files Usage before now = now ≡ before
Wrote command files ReadFault before now = now ≡ before
Wrote command files Memory before now = now ≡ before
Wrote command files Open before now = ⊥
Wrote command files Rejected before now = ⊥
