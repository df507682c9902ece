-- What is read of a text, and where a text is no certificate's.
use Rattle.std.specs.Prelude.{◌≡◌, ℕ, ◌+◌, List, [], ◌∷◌, ◌++◌, length, Result, Ok, Err}
use Rattle.ipet_program.specs.declared.certificate.Certificate.{Certificate}
use Rattle.cert_check.specs.declared.fault.CertFault.{CertFault}
use Rattle.cert_check.specs.declared.fault.CertFault.TheVariants.{Text, Memory}
use Rattle.cert_check.specs.declared.line.Line.{Line}
use Rattle.cert_check.specs.Lines.{Fits, certificate_lines, line_text, text_of}

-- Two certificates are the same, but for the line where `reached` stands.
pub record IsSame (a b : Certificate) : Type 0 where
  pub bound : a.bound ≡ b.bound
  pub reached : a.reached ≡ b.reached
  pub counts : a.counts ≡ b.counts
  pub tree : a.tree ≡ b.tree

-- Some certificate's lines begin with these.
pub record Begins (lines : List Line) : Type 0 where
  pub certificate : Certificate
  pub fits : Fits certificate
  pub more : List Line
  pub is : certificate_lines certificate ≡ lines ++ more

-- The text is no certificate's: its lines before this number, counted from the first one's, begin some
-- certificate's text, and with the line of this number they begin none. Nor are they all of a certificate's text
-- and all of this one; so the number is that of the first line that no certificate's text can have, or of the one
-- after the last. A last line without its newline is no line.
pub record IsFirstBad (text : List ℕ) (first number : ℕ) : Type 0 where
  pub lines : List Line
  pub rest : List ℕ
  pub many : first + length lines ≡ number
  pub front : text ≡ text_of lines ++ rest
  pub begins : Begins lines
  pub none : (line : Line) (behind : List ℕ) → rest ≡ line_text line ++ behind → Begins (lines ++ line ∷ []) → ⊥
  pub unended : rest ≡ [] → (certificate : Certificate) → Fits certificate → certificate_lines certificate ≡ lines → ⊥

-- What a fault says of a text whose first line has a number.
abbrev pub Refuses : (text : List ℕ) (first : ℕ) → CertFault → Type 0
Refuses text first (Text line) = IsFirstBad text first line
Refuses text first Memory = Unit {0}

-- The certificate is read, unless memory runs out.
abbrev pub Gives : Result Certificate CertFault → Certificate → Type 0
Gives (Ok read) certificate = IsSame read certificate
Gives (Err (Text line)) certificate = ⊥
Gives (Err Memory) certificate = Unit {0}
