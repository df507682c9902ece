-- The rows of which nothing is known fit their chains, and hold.
use Rattle.std.proofs.Common.{◌≡◌, ◌∙◌, List, All, ap, sym, subst}
use Rattle.std.specs.List.{AllZip}
use Rattle.address_analysis.specs.Ranges.{in_range}
use Rattle.age_model.specs.Classes.{FollowLetters, IsRowOf}
use Rattle.flow_net.specs.declared.letter.Letter.TheVariants.{Always}
use Rattle.flow_net.specs.declared.letter.Level2.{Level2}
use Rattle.level_filter.specs.Unknown.{unknown_rows}
use Rattle.lru_concrete.specs.declared.level.Level.{Level}
use Rattle.level_filter.proofs.UnknownRows.{hold-unknown, letters-unknown, rows-unknown}
use Rattle.level_filter.proofs.classes.classify.Goals as goal

-- The rows of the profile's own caches.
pub returns-clause-rows : goal.returns-clause-rows
returns-clause-rows c =
    subst (λ (rows : List (List Level2)). AllZip (IsRowOf c.args.net.now c.args.profile.now.levels) c.args.net.now.accesses rows)
    (sym (c.in_ok-rows.ensures ∙ ap (λ (levels : List Level). unknown_rows levels c.args.net.now.accesses) c.as_slice.ensures))
    (rows-unknown c.args.net.now c.args.profile.now.levels c.args.net.now.accesses)

pub returns-clause-letters : goal.returns-clause-letters
returns-clause-letters c =
    subst (λ (rows : List (List Level2)). All (FollowLetters Always) rows)
    (sym (c.in_ok-rows.ensures ∙ ap (λ (levels : List Level). unknown_rows levels c.args.net.now.accesses) c.as_slice.ensures))
    (letters-unknown c.args.profile.now.levels c.args.net.now.accesses)

pub returns-clause-hold : goal.returns-clause-hold
returns-clause-hold c =
    hold-unknown c.args.net.now c.args.profile.now.levels (in_range c.args.ranges.now) (record { rows = c.in_ok-rows.rows })
    (c.in_ok-rows.ensures ∙ ap (λ (levels : List Level). unknown_rows levels c.args.net.now.accesses) c.as_slice.ensures)
