-- The lines of a text so far, and where the text is no certificate's.
use Rattle.std.proofs.Common.{◌≡◌, ℕ, zero, suc, ◌+◌, ◌<◌, ◌≤◌, ◌^◌, Bool, true, false, List, [], ◌∷◌, ◌++◌, length, Option, Some, None, refl, sym, ap, subst, ◌∙◌, append_assoc, arith, codes}
use Rattle.std.specs.Prelude.{flat_map}
use Rattle.std.specs.Fmt.{decimal, signed_decimal}
use Rattle.std.specs.List.{AllByRecursion}
use Rattle.std.proofs.lemmas.List.{append-nil, length-append}
use Rattle.std.proofs.lemmas.List.Concat.{flat_map-cons}
use Rattle.ipet_program.specs.declared.certificate.Certificate.{Certificate}
use Rattle.ipet_program.specs.declared.certificate.Node.TheVariants.{Split, End}
use Rattle.cert_check.specs.declared.line.Line.{Line}
use Rattle.cert_check.specs.declared.line.Line.TheVariants.{Bound, Reached, Value, Tree, Last}
use Rattle.cert_check.specs.declared.order.State.{State}
use Rattle.cert_check.specs.declared.order.State.TheVariants.{Begin, Bounded, Counts, Trees, Ended}
use Rattle.cert_check.specs.Faults.{Begins, IsFirstBad}
use Rattle.cert_check.specs.Lines.{FitsLine, Fits, TakesLine, certificate_lines, line_text, text_of}
use Rattle.cert_check.specs.Order.{is_over, left_in, next}
use Rattle.cert_check.specs.Texts.{certificate_text, leaf_head, weight_text}
use Rattle.cert_check.proofs.CertificateLines.{begins_of, certificate_sheet, certificate_text-lines, goes_on}
use Rattle.cert_check.proofs.Lists.{flat_push}
use Rattle.cert_check.proofs.Sheets.{IsSheet, Leads, few_left, fit_more, fit_there, leads_back, leads_more, leads_same, no_state, over_is, still}

-- Lines that stand in front of the text and lead to a state.
pub record AreRead (text : List ℕ) (first : ℕ) (lines : List Line) (rest : List ℕ) (state : State) (number : ℕ) : Type 0 where
  pub fit : AllByRecursion FitsLine lines
  pub leads : Leads Begin lines state
  pub front : text ≡ text_of lines ++ rest
  pub many : first + length lines ≡ number
  pub short : length lines + length rest ≤ length text
  pub few : left_in state ≤ length lines

-- What a certificate of this text still has behind the lines.
pub record Ahead (lines : List Line) (rest : List ℕ) (sheet : List Line) : Type 0 where
  pub more : List Line
  pub parts : sheet ≡ lines ++ more
  pub text : rest ≡ text_of more

pub none_yet : (text : List ℕ) (first : ℕ) → AreRead text first [] text Begin first
none_yet text first = record {
  fit = tt;
  leads = refl;
  front = refl;
  many = omega arith;
  short = omega arith;
  few = omega arith;
}

pub all_ahead : (text : List ℕ) (certificate : Certificate) → text ≡ certificate_text certificate →
    Ahead [] text (certificate_lines certificate)
all_ahead text certificate e =
    record { more = certificate_lines certificate; parts = refl; text = e ∙ certificate_text-lines certificate }

line_some : (line : Line) → 0 < length (line_text line)
line_some (Bound bound) = omega (arith, length-append (codes "bound ") (decimal bound ++ codes "\n"))
line_some (Reached reached) = omega (arith, length-append (codes "reached ") (decimal reached ++ codes "\n"))
line_some (Value count) = omega arith
line_some (Tree (Split column at)) = omega arith
line_some (Tree (End leaf)) =
    omega (arith, length-append (leaf_head leaf ++ flat_map weight_text leaf.weights) (codes "\n"))
line_some Last = omega arith

-- A line more.
pub one_more : (text : List ℕ) (first : ℕ) (lines : List Line) (rest : List ℕ) (state : State) (number : ℕ) →
    AreRead text first lines rest state number → (line : Line) (behind : List ℕ) (later : State) →
    TakesLine rest line behind → next state line ≡ Some later → AreRead text first (lines ++ line ∷ []) behind later (number + 1)
one_more text first lines rest state number h line behind later takes goes =
    let long : length (lines ++ line ∷ []) ≡ length lines + 1 = length-append lines (line ∷ []) in
    let shorter : length rest ≡ length (line_text line) + length behind = rw takes.is (length-append (line_text line) behind) in
    record {
      fit = fit_more lines (line ∷ []) h.fit (takes.fits, tt);
      leads = leads_more Begin lines state line later h.leads goes;
      front =
          h.front ∙ ap (λ (t : List ℕ). text_of lines ++ t) takes.is
          ∙ sym (append_assoc (text_of lines) (line_text line) behind)
          ∙ ap (λ (t : List ℕ). t ++ behind) (sym (flat_push line_text lines line));
      many = omega (arith, h.many, long);
      short = omega (arith, shorter, h.short, line_some line, long);
      few = omega (arith, few_left state later line goes, h.few, long);
    }

-- There is something behind a line's end only within the text.
pub room : (text : List ℕ) (first : ℕ) (lines : List Line) (rest : List ℕ) (state : State) (number : ℕ) →
    AreRead text first lines rest state number → (line : Line) (behind : List ℕ) → TakesLine rest line behind →
    first + length text < 2 ^ 32 → number + 1 < 2 ^ 32
room text first lines rest state number h line behind takes fits =
    let shorter : length rest ≡ length (line_text line) + length behind = rw takes.is (length-append (line_text line) behind) in
    omega (arith, shorter, h.short, h.many, line_some line, fits)

not_ended : (text : List ℕ) (first : ℕ) (lines : List Line) (rest : List ℕ) (state : State) (number : ℕ) →
    AreRead text first lines rest state number → is_over state ≡ false →
    (certificate : Certificate) → Fits certificate → certificate_lines certificate ≡ lines → ⊥
not_ended text first lines rest state number h going certificate fits e =
    still state going
    (leads_same Begin lines state Ended h.leads (subst (λ (t : List Line). Leads Begin t Ended) e (certificate_sheet certificate fits).order))

-- No line stands at the rest.
pub no_line : (text : List ℕ) (first : ℕ) (lines : List Line) (rest : List ℕ) (state : State) (number : ℕ) →
    AreRead text first lines rest state number → is_over state ≡ false →
    ((line : Line) (behind : List ℕ) → TakesLine rest line behind → ⊥) → IsFirstBad text first number
no_line text first lines rest state number h going apart = record {
  lines = lines;
  rest = rest;
  many = h.many;
  front = h.front;
  begins = begins_of lines state h.fit h.leads;
  none = λ line behind e b.
      let s = goes_on lines line b in
      apart line behind (record { fits = fit_there lines line s.more s.sheet.fit; is = e });
  unended = λ e certificate fits is. not_ended text first lines rest state number h going certificate fits is;
}

-- The line at the rest may not come.
pub bad_line : (text : List ℕ) (first : ℕ) (lines : List Line) (rest : List ℕ) (state : State) (number : ℕ) →
    AreRead text first lines rest state number → is_over state ≡ false → (there : Line) →
    ((line : Line) (behind : List ℕ) → TakesLine rest line behind → there ≡ line) → next state there ≡ None →
    IsFirstBad text first number
bad_line text first lines rest state number h going there only stuck = record {
  lines = lines;
  rest = rest;
  many = h.many;
  front = h.front;
  begins = begins_of lines state h.fit h.leads;
  none = λ line behind e b.
      let s = goes_on lines line b in
      let same = only line behind (record { fits = fit_there lines line s.more s.sheet.fit; is = e }) in
      let on = leads_back Begin lines (line ∷ s.more) state Ended h.leads s.sheet.order in
      no_state on.0 (sym stuck ∙ ap (next state) same ∙ on.1);
  unended = λ e certificate fits is. not_ended text first lines rest state number h going certificate fits is;
}

-- Something stands behind the end.
pub trailing : (text : List ℕ) (first : ℕ) (lines : List Line) (rest : List ℕ) (state : State) (number : ℕ) →
    AreRead text first lines rest state number → is_over state ≡ true → (rest ≡ [] → ⊥) → IsFirstBad text first number
trailing text first lines rest state number h over some = record {
  lines = lines;
  rest = rest;
  many = h.many;
  front = h.front;
  begins = begins_of lines state h.fit h.leads;
  none = λ line behind e b.
      let s = goes_on lines line b in
      let on = leads_back Begin lines (line ∷ s.more) state Ended h.leads s.sheet.order in
      no_state on.0 (subst (λ (t : State). next t line ≡ Some on.0) (over_is state over) on.1);
  unended = λ e certificate fits is. some e;
}

-- The line that a certificate has behind the lines.
pub record NextLine (lines : List Line) (rest : List ℕ) (sheet : List Line) : Type 0 where
  pub line : Line
  pub more : List Line
  pub parts : sheet ≡ lines ++ line ∷ more
  pub takes : TakesLine rest line (text_of more)

next_by : (lines : List Line) (rest : List ℕ) (state : State) (sheet : List Line) → Leads Begin lines state →
    is_over state ≡ false → IsSheet sheet → (more : List Line) → sheet ≡ lines ++ more → rest ≡ text_of more →
    NextLine lines rest sheet
next_by lines rest state sheet h going s [] e t =
    absurd (still state going
    (leads_same Begin lines state Ended h (subst (λ (t : List Line). Leads Begin t Ended) (e ∙ append-nil lines) s.order)))
next_by lines rest state sheet h going s (line ∷ more) e t = record {
  line = line;
  more = more;
  parts = e;
  takes = record {
    fits = fit_there lines line more (subst (AllByRecursion FitsLine) e s.fit);
    is = t ∙ flat_map-cons line_text line more;
  };
}

-- It goes on with a line while its end isn't there.
pub next_line : (lines : List Line) (rest : List ℕ) (state : State) (sheet : List Line) → Leads Begin lines state →
    is_over state ≡ false → IsSheet sheet → Ahead lines rest sheet → NextLine lines rest sheet
next_line lines rest state sheet h going s a = next_by lines rest state sheet h going s a.more a.parts a.text

over_by : (lines : List Line) (rest : List ℕ) (state : State) (sheet : List Line) → Leads Begin lines state →
    is_over state ≡ true → IsSheet sheet → (more : List Line) → sheet ≡ lines ++ more → rest ≡ text_of more →
    (lines ≡ sheet) × (rest ≡ [])
over_by lines rest state sheet h over s [] e t = (sym (e ∙ append-nil lines), t)
over_by lines rest state sheet h over s (line ∷ more) e t =
    let on = leads_back Begin lines (line ∷ more) state Ended h (subst (λ (u : List Line). Leads Begin u Ended) e s.order) in
    absurd (no_state on.0 (subst (λ (u : State). next u line ≡ Some on.0) (over_is state over) on.1))

-- Behind its end nothing comes.
pub no_more : (lines : List Line) (rest : List ℕ) (state : State) (sheet : List Line) → Leads Begin lines state →
    is_over state ≡ true → IsSheet sheet → Ahead lines rest sheet → (lines ≡ sheet) × (rest ≡ [])
no_more lines rest state sheet h over s a = over_by lines rest state sheet h over s a.more a.parts a.text

-- A line that is read is the one that the certificate has there.
pub ahead_more : (lines : List Line) (rest : List ℕ) (state : State) (sheet : List Line) → Leads Begin lines state →
    is_over state ≡ false → IsSheet sheet → Ahead lines rest sheet → (there : Line) (behind : List ℕ) →
    ((line : Line) (after : List ℕ) → TakesLine rest line after → (there ≡ line) × (behind ≡ after)) →
    Ahead (lines ++ there ∷ []) behind sheet
ahead_more lines rest state sheet h going s a there behind only =
    let n = next_line lines rest state sheet h going s a in
    let same = only n.line (text_of n.more) n.takes in
    record {
      more = n.more;
      parts = n.parts ∙ ap (λ (l : Line). lines ++ l ∷ n.more) (sym same.0) ∙ sym (append_assoc lines (there ∷ []) n.more);
      text = same.1;
    }

-- The certificate has no line that may not come.
pub stuck : (lines : List Line) (state : State) (sheet : List Line) → Leads Begin lines state → IsSheet sheet →
    (line : Line) (more : List Line) → sheet ≡ lines ++ line ∷ more → next state line ≡ None → ⊥
stuck lines state sheet h s line more e none =
    let on = leads_back Begin lines (line ∷ more) state Ended h (subst (λ (u : List Line). Leads Begin u Ended) e s.order) in
    no_state on.0 (sym none ∙ on.1)
