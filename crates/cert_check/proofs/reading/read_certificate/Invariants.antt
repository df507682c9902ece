-- The lines of the draft stand in front of the text, and lead to the state.
use Rattle.std.specs.Prelude.{◌≡◌, length}
use Rattle.ipet_program.specs.declared.certificate.Certificate.{Certificate}
use Rattle.cert_check.specs.Lines.{Fits, certificate_lines}
use Rattle.cert_check.specs.Texts.{certificate_text}
use Rattle.cert_check.proofs.Drafting.{IsEarly, lines_by}
use Rattle.cert_check.proofs.Progress.{Ahead, AreRead}
use Rattle.cert_check.proofs.reading.read_certificate.Given as goal

abbrev pub invariant-loop-alloc : goal.invariant-loop-alloc
invariant-loop-alloc l = record {
  early : IsEarly l.state l.draft;
  read : AreRead l.text l.first_line (lines_by l.state l.draft) l.rest l.state l.number;
  ahead : (certificate : Certificate) → Fits certificate → l.text ≡ certificate_text certificate →
      Ahead (lines_by l.state l.draft) l.rest (certificate_lines certificate);
}

abbrev pub decreases-loop-alloc : goal.decreases-loop-alloc
decreases-loop-alloc l = length l.rest
