-- Decoding finds exactly the rows of the table.
use Rattle.std.proofs.Common.{subst, ◌≡◌, sym, ◌∙◌}
use Rattle.std.specs.Prelude.{IfSome}
use Rattle.mips_decode.specs.Decoded.{fields_of}
use Rattle.mips_decode.specs.Decoder.{by_fields}
use Rattle.mips_decode.specs.Table.{IsRow}
use Rattle.mips_decode.proofs.Candidates.{by_fields-decoded, decoded-row}
use Rattle.mips_decode.proofs.Rows.{IfSome-by_fields}
use Rattle.mips_decode.proofs.decoder.decode.Goals as goal

pub returns-clause-exact : goal.returns-clause-exact
returns-clause-exact c =
    let e : c.by_fields.result ≡ by_fields (fields_of c.args.word) = cc in
    e ∙ by_fields-decoded c.args.word c.ranges.word.fits

pub returns-clause-found : goal.returns-clause-found
returns-clause-found c =
    let e : c.by_fields.result ≡ by_fields (fields_of c.args.word) = cc in
    subst (λ o. IfSome o (IsRow c.args.word)) (sym e) (IfSome-by_fields c.args.word c.ranges.word.fits)

pub returns-clause-only : goal.returns-clause-only
returns-clause-only c = λ i v e.
    let f : c.by_fields.result ≡ by_fields (fields_of c.args.word) = cc in
    f ∙ by_fields-decoded c.args.word c.ranges.word.fits ∙ decoded-row c.args.word i (v, e)
