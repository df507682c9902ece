-- The only region that can hold the word's first byte holds the word, or no region does.
use Rattle.std.proofs.Common.{◌≡◌, sym, ◌∙◌, ap, Some, get_or}
use Rattle.mips_machine.proofs.IndexLemmas.{code_at-found, code_at-none, fails_none, fails_only, of_covering-code, stands_only}
use Rattle.mips_decode.specs.State.{holds_code}
use Rattle.mips_machine.proofs.memory.Memory.code.Goals as goal

pub returns-in_default-clause-word : goal.returns-in_default-clause-word
returns-in_default-clause-word c =
    let regions = c.args.self.now in
    let address = c.args.address in
    sym (code_at-none regions address
    (fails_none (holds_code address) regions address (of_covering-code address) c.in_default.ensures.none))

pub returns-then-not-has_code-clause-word : goal.returns-then-not-has_code-clause-word
returns-then-not-has_code-clause-word c =
    let regions = c.args.self.now in
    let address = c.args.address in
    let region = c.index-region.result.now in
    sym (code_at-none regions address
    (fails_only (holds_code address) regions address c.in-Some.place region (of_covering-code address)
    c.in-Some.ensures.only (cc (c.index-region.ensures, c.self.view_is)) (cc (c.has_code.ensures.held, c.if-not-has_code.true))))

pub returns-clause-word : goal.returns-clause-word
returns-clause-word c =
    let regions = c.args.self.now in
    let address = c.args.address in
    let region = c.index-region.result.now in
    let here : region ≡ get_or regions c.in-Some.place region = cc (c.index-region.ensures, c.self.view_is) in
    ap Some c.word.ensures
    ∙ sym (code_at-found regions address c.in-Some.place region c.if-not-address.false
    (stands_only (holds_code address) regions address c.in-Some.place region (of_covering-code address)
    c.in-Some.ensures.only here (cc (c.has_code.ensures.held, c.if-not-has_code.false))) here)
