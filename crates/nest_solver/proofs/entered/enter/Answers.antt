-- An arc to a header that is no back arc enters the loop.
use Rattle.std.proofs.Common.{◌≡◌, false, sym, ◌∙◌, arith}
use Rattle.nest_solver.specs.Nets.{entry}
use Rattle.nest_solver.specs.Plain.{plain}
use Rattle.nest_solver.specs.Shape.{is_back, target}
use Rattle.nest_solver.proofs.Plains.{tables-back}
use Rattle.nest_solver.proofs.Entering.{target-read, test-read}
use Rattle.nest_solver.proofs.Heading.{marks-low}
use Rattle.flow_net.specs.Numbers.{item_at}
use Rattle.flow_net.specs.Visits.{target_of}
use Rattle.nest_solver.proofs.Turning.{enters-put}
use Rattle.nest_solver.proofs.entered.enter.Goals as goal

pub returns : goal.returns
returns c =
    let net = c.args.net.now in
    let tables = c.args.tables.now in
    let s = plain net tables in
    let is : c.index-scope.result.now ≡ target s c.args.arc =
    target-read net tables c.args.arc c.target.result c.index-scope.result.now c.requires.nested c.requires.tables
    c.requires.arc c.target.ensures c.index-scope.ensures in
    let forward : is_back s c.args.arc ≡ false =
    sym (tables-back net tables c.requires.tables c.args.arc c.requires.arc)
    ∙ test-read tables.backs.items c.args.arc c.index.result.now c.index.ensures c.if-index.false in
    let low = marks-low net (entry tables.headed.items) (target_of (item_at c.args.arc net.arcs)) c.requires.tables.headed in
    record {
      entered = λ l u. enters-put s c.args.often.now c.args.arc c.index-scope.result.now (entry c.args.counts.now c.args.arc)
          l is (λ e. c.if-scope-eq0.false (is ∙ e)) forward (omega (arith, is, low, c.requires.often));
    }
