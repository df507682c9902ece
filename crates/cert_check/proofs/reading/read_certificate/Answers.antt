-- Each exit, and a turn.
use Rattle.std.proofs.Common.{rules, ◌≡◌, ℕ, ◌+◌, List, ◌++◌, ◌∷◌, [], Option, Some, None, refl, sym, ap, subst, ◌∙◌, arith}
use Rattle.std.proofs.lemmas.Bool.Decides.{Decides-eqb}
use Rattle.std.proofs.lemmas.List.{append-nil}
use Rattle.cert_check.specs.declared.line.Line.{Line}
use Rattle.cert_check.specs.Lines.{certificate_lines, text_of}
use Rattle.cert_check.specs.Order.{next}
use Rattle.cert_check.proofs.CertificateLines.{certificate_sheet, parts_same, rises_pairs, rises_taken, text_law}
use Rattle.cert_check.proofs.Drafting.{adds, ended_lawful, ended_lines, lines_by}
use Rattle.cert_check.proofs.Lists.{first_same, second_same, no_bytes, none_some}
use Rattle.cert_check.proofs.Progress.{Ahead, AreRead, ahead_more, all_ahead, bad_line, next_line, no_line, no_more, none_yet, one_more, stuck, trailing}
use Rattle.cert_check.proofs.reading.read_certificate.Goals as goal

pub loop-alloc-init : goal.loop-alloc-init
loop-alloc-init c = record {
  early = rw c.new-draft.ensures (refl, refl);
  read = none_yet c.args.text.now c.args.first_line;
  ahead = λ certificate fits e. all_ahead c.args.text.now certificate e;
}

pub returns-in_default-clause-refused : goal.returns-in_default-clause-refused
returns-in_default-clause-refused c =
    no_line c.args.text.now c.args.first_line (lines_by c.loop-alloc.state c.loop-alloc.draft) c.loop-alloc.rest.now c.loop-alloc.state c.loop-alloc.number
    c.loop-alloc.invariant.read (search (rules, c.is_ended.ensures, c.loop-alloc-test.true))
    (λ line behind t. none_some _ (rw (c.in_default.is) at (c.in_ok-line.ensures.again line behind t)))

pub returns-in_default-clause-again : goal.returns-in_default-clause-again
returns-in_default-clause-again c certificate fits e =
    let n = next_line (lines_by c.loop-alloc.state c.loop-alloc.draft) c.loop-alloc.rest.now c.loop-alloc.state (certificate_lines certificate)
    c.loop-alloc.invariant.read.leads (search (rules, c.is_ended.ensures, c.loop-alloc-test.true)) (certificate_sheet certificate fits)
    (c.loop-alloc.invariant.ahead certificate fits e) in
    none_some _ (rw (c.in_default.is) at (c.in_ok-line.ensures.again n.line (text_of n.more) n.takes))

pub returns-in_default-next-clause-refused : goal.returns-in_default-next-clause-refused
returns-in_default-next-clause-refused c =
    bad_line c.args.text.now c.args.first_line (lines_by c.loop-alloc.state c.loop-alloc.draft) c.loop-alloc.rest.now c.loop-alloc.state c.loop-alloc.number
    c.loop-alloc.invariant.read (search (rules, c.is_ended.ensures, c.loop-alloc-test.true)) c.in-Some.line
    (λ line behind t. first_same _ _ _ _ (rw (c.in-Some.is) at (c.in_ok-line.ensures.again line behind t))) (sym c.in_default-next.ensures)

pub returns-in_default-next-clause-again : goal.returns-in_default-next-clause-again
returns-in_default-next-clause-again c certificate fits e =
    let n = next_line (lines_by c.loop-alloc.state c.loop-alloc.draft) c.loop-alloc.rest.now c.loop-alloc.state (certificate_lines certificate)
    c.loop-alloc.invariant.read.leads (search (rules, c.is_ended.ensures, c.loop-alloc-test.true)) (certificate_sheet certificate fits)
    (c.loop-alloc.invariant.ahead certificate fits e) in
    let same = first_same _ _ _ _ (rw (c.in-Some.is) at (c.in_ok-line.ensures.again n.line (text_of n.more) n.takes)) in
    stuck (lines_by c.loop-alloc.state c.loop-alloc.draft) c.loop-alloc.state (certificate_lines certificate) c.loop-alloc.invariant.read.leads
    (certificate_sheet certificate fits) n.line n.more n.parts (ap (next c.loop-alloc.state) (sym same) ∙ sym c.in_default-next.ensures)

pub loop-alloc-preserved : goal.loop-alloc-preserved
loop-alloc-preserved c =
    let inv = c.loop-alloc.invariant in
    let a = adds c.loop-alloc.state c.loop-alloc.draft c.in-Some.line c.in-Some-next.later inv.early (sym c.in-Some-next.ensures) in
    let takes = rw (c.in-Some.is) at c.in_ok-line.ensures.takes in
    record {
      early = rw c.in_ok-add.ensures a.early;
      read = rw c.in_ok-add.ensures
          (subst (λ (lines : List Line). AreRead c.args.text.now c.args.first_line lines c.in-Some.behind.now c.in-Some-next.later (c.loop-alloc.number + 1)) (sym a.lines)
          (one_more c.args.text.now c.args.first_line (lines_by c.loop-alloc.state c.loop-alloc.draft) c.loop-alloc.rest.now c.loop-alloc.state c.loop-alloc.number inv.read
          c.in-Some.line c.in-Some.behind.now c.in-Some-next.later takes (sym c.in-Some-next.ensures)));
      ahead = λ certificate fits e. rw c.in_ok-add.ensures
          (subst (λ (lines : List Line). Ahead lines c.in-Some.behind.now (certificate_lines certificate)) (sym a.lines)
          (ahead_more (lines_by c.loop-alloc.state c.loop-alloc.draft) c.loop-alloc.rest.now c.loop-alloc.state (certificate_lines certificate)
          inv.read.leads (search (rules, c.is_ended.ensures, c.loop-alloc-test.true)) (certificate_sheet certificate fits) (inv.ahead certificate fits e)
          c.in-Some.line c.in-Some.behind.now (λ line behind t.
          let same = rw (c.in-Some.is) at (c.in_ok-line.ensures.again line behind t) in
          (first_same _ _ _ _ same, second_same _ _ _ _ same))));
    }

pub returns-then-not-is_empty-clause-refused : goal.returns-then-not-is_empty-clause-refused
returns-then-not-is_empty-clause-refused c =
    trailing c.args.text.now c.args.first_line (lines_by c.loop-alloc.state c.loop-alloc.draft) c.loop-alloc.rest.now c.loop-alloc.state c.loop-alloc.number
    c.loop-alloc.invariant.read (search (rules, c.is_ended.ensures, c.loop-alloc-test.false))
    (λ e. grind (arith, e, c.is_empty.ensures, c.if-not-is_empty.true))

pub returns-then-not-is_empty-clause-again : goal.returns-then-not-is_empty-clause-again
returns-then-not-is_empty-clause-again c certificate fits e =
    let n = no_more (lines_by c.loop-alloc.state c.loop-alloc.draft) c.loop-alloc.rest.now c.loop-alloc.state (certificate_lines certificate)
    c.loop-alloc.invariant.read.leads (search (rules, c.is_ended.ensures, c.loop-alloc-test.false)) (certificate_sheet certificate fits)
    (c.loop-alloc.invariant.ahead certificate fits e) in
    grind (arith, n.1, c.is_empty.ensures, c.if-not-is_empty.true)

pub invariant_of-result : goal.invariant_of-result
invariant_of-result c =
    let l = ended_lawful c.loop-alloc.state c.loop-alloc.draft (search (rules, c.is_ended.ensures, c.loop-alloc-test.false)) c.loop-alloc.invariant.read.leads in
    record {
      taken = rises_taken 0 c.loop-alloc.draft.counts l.0;
      rising = rises_pairs 0 c.loop-alloc.draft.counts l.0;
      whole = l.1;
    }

pub returns-clause-text : goal.returns-clause-text
returns-clause-text c =
    let all = ended_lines c.loop-alloc.state c.loop-alloc.draft (search (rules, c.is_ended.ensures, c.loop-alloc-test.false)) in
    let end : c.loop-alloc.rest.now ≡ [] = no_bytes c.loop-alloc.rest.now ((Decides-eqb _ _).0 (sym c.is_empty.ensures ∙ c.if-not-is_empty.false)) in
    text_law c.loop-alloc.draft.bound c.loop-alloc.draft.reached c.loop-alloc.draft.counts c.loop-alloc.draft.tree
    ∙ ap text_of (sym all)
    ∙ sym (c.loop-alloc.invariant.read.front
    ∙ ap (λ (t : List ℕ). text_of (lines_by c.loop-alloc.state c.loop-alloc.draft) ++ t) end
    ∙ append-nil (text_of (lines_by c.loop-alloc.state c.loop-alloc.draft)))

pub returns-clause-again : goal.returns-clause-again
returns-clause-again c certificate fits e =
    let n = no_more (lines_by c.loop-alloc.state c.loop-alloc.draft) c.loop-alloc.rest.now c.loop-alloc.state (certificate_lines certificate)
    c.loop-alloc.invariant.read.leads (search (rules, c.is_ended.ensures, c.loop-alloc-test.false)) (certificate_sheet certificate fits)
    (c.loop-alloc.invariant.ahead certificate fits e) in
    let all = ended_lines c.loop-alloc.state c.loop-alloc.draft (search (rules, c.is_ended.ensures, c.loop-alloc-test.false)) in
    let p = parts_same c.loop-alloc.draft.bound c.loop-alloc.draft.reached c.loop-alloc.draft.counts c.loop-alloc.draft.tree certificate (sym all ∙ n.0) in
    record { bound = p.bound_same; reached = p.reached_same; counts = p.counted_same; tree = p.tree_same }
