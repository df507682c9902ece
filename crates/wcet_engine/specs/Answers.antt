-- What an answer says of the files.
use Rattle.std.specs.Prelude.{Option, Some, None}
use Rattle.wcet_engine.specs.declared.answer.Answer.{Answer}
use Rattle.wcet_engine.specs.declared.answer.Answer.TheVariants.{Analysed, Refused}
use Rattle.wcet_engine.specs.Faults.{IsAnalysis, IsFirstFault}
use Rattle.wcet_engine.specs.Given.{Given}

-- Files without a fault are analysed, any others are refused with their first fault.
abbrev pub IsAnswerTo : Given → Answer → Type 0
IsAnswerTo files (Analysed analysis) = IsAnalysis files analysis
IsAnswerTo files (Refused refusal) = IsFirstFault files refusal

-- The answer for the files that are read; it says nothing where a shelf doesn't tell their contents.
abbrev pub IsAnswer : Option Given → Answer → Type 0
IsAnswer None answer = Unit {0}
IsAnswer (Some files) answer = IsAnswerTo files answer
