-- What was read of the files that a form names.
use Rattle.std.proofs.Common.{◌≡◌, ℕ, ◌≤◌, inl, inr, List, length, Option, Some, None, IfSome, Result, Ok, Err, IfOk, ap, subst, ◌∙◌}
use Rattle.std.specs.Prelude.{option_map}
use Rattle.std.proofs.lemmas.Bool.{le-ltb, lt-ltb}
use Rattle.std.specs.declared.alloc.Global.{Global}
use Rattle.std.specs.declared.vec.Vec.{Vec}
use Rattle.wcet_engine.specs.declared.answer.Answer.{Answer}
use Rattle.wcet_engine.specs.declared.answer.Answer.TheVariants.{Refused}
use Rattle.wcet_engine.specs.declared.contents.Contents.{Contents}
use Rattle.wcet_engine.specs.declared.refusal.RefusalKind.TheVariants.{TooLong}
use Rattle.wcet_engine.specs.Answers.{IsAnswer, IsAnswerTo}
use Rattle.wcet_engine.specs.Given.{AreRead, Given, IsFound, file_limit, given, given_of, with_elf}
use Rattle.wcet_engine.specs.Refusals.{at_number}
use Rattle.wcet_engine.proofs.ConfigFaultLemmas.{first-long}

-- The ELF file is too long.
pub long-elf : (told : List ℕ → Option (List ℕ)) (config found : Option (List ℕ)) → IfSome found (IsFound None) →
    IfSome (with_elf told config found) (AreRead None)
long-elf told config None long = tt
long-elf told config (Some elf) long = rw (lt-ltb file_limit (length elf) long) (inl long)

-- There is no other file.
pub one-file : (told : List ℕ → Option (List ℕ)) (found : Option (List ℕ)) (bytes : Vec ℕ Global) → length bytes.items ≤ file_limit →
    IfSome found (IsFound (Some bytes)) → IfSome (with_elf told None found) (AreRead (Some (record { elf = bytes; config = None })))
one-file told None bytes fits same = tt
one-file told (Some elf) bytes fits same =
    rw (le-ltb file_limit (length elf) (subst (λ (e : List ℕ). length e ≤ file_limit) same fits)) (ap (λ (e : List ℕ). given e None) same)

-- The profile's text is too long.
pub long-config : (told : List ℕ → Option (List ℕ)) (found : Option (List ℕ)) (name : List ℕ) (bytes : Vec ℕ Global) → length bytes.items ≤ file_limit →
    IfSome found (IsFound (Some bytes)) → IfSome (told name) (IsFound None) → IfSome (with_elf told (Some name) found) (AreRead None)
long-config told None name bytes fits same long = tt
long-config told (Some elf) name bytes fits same long =
    rw (le-ltb file_limit (length elf) (subst (λ (e : List ℕ). length e ≤ file_limit) same fits)) (by_text elf (told name) long) where
      by_text : (elf : List ℕ) (text : Option (List ℕ)) → IfSome text (IsFound None) →
          IfSome (option_map (λ (t : List ℕ). given elf (Some t)) text) (AreRead None)
      by_text elf None long = tt
      by_text elf (Some text) long = inr long

-- Both files were read.
pub two-files : (told : List ℕ → Option (List ℕ)) (found : Option (List ℕ)) (name : List ℕ) (bytes text : Vec ℕ Global) →
    length bytes.items ≤ file_limit → IfSome found (IsFound (Some bytes)) → IfSome (told name) (IsFound (Some text)) →
    IfSome (with_elf told (Some name) found) (AreRead (Some (record { elf = bytes; config = Some text })))
two-files told None name bytes text fits same other = tt
two-files told (Some elf) name bytes text fits same other =
    rw (le-ltb file_limit (length elf) (subst (λ (e : List ℕ). length e ≤ file_limit) same fits)) (by_text elf same (told name) other) where
      by_text : (elf : List ℕ) → bytes.items ≡ elf → (found : Option (List ℕ)) → IfSome found (IsFound (Some text)) →
          IfSome (option_map (λ (t : List ℕ). given elf (Some t)) found) (AreRead (Some (record { elf = bytes; config = Some text })))
      by_text elf same None other = tt
      by_text elf same (Some words) other = ap (λ (e : List ℕ). given e (Some text.items)) same ∙ ap (λ (w : List ℕ). given elf (Some w)) other

-- What is answered for what was read.
pub answer-read : {E : Type 0} (files : Option Given) (contents : Contents) (result : Result Answer E) → IfSome files (AreRead (Some contents)) →
    IfOk result (IsAnswerTo (given_of contents)) → IfOk result (IsAnswer files)
answer-read files contents (Err error) read told = told
answer-read None contents (Ok answer) read told = tt
answer-read (Some given) contents (Ok answer) read told = subst (λ (files : Given). IsAnswerTo files answer) read told

-- What is answered where a file is too long.
pub answer-long : (files : Option Given) → IfSome files (AreRead None) → IsAnswer files (Refused (at_number TooLong file_limit))
answer-long None long = tt
answer-long (Some given) long = first-long given long
