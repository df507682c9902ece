-- Which words stay, are forgotten and are known after a store, and what they tell of memory.
use Rattle.std.proofs.Common.{◌≡◌, List, true, sym, ap, subst, ◌∙◌}
use Rattle.domain_laws.specs.Maps.{map_leq, value_at}
use Rattle.mips_decode.specs.Effect.{regions_with}
use Rattle.cell_memory.specs.Meaning.{Covers, store_at}
use Rattle.cell_memory.proofs.WordLists.{Word}
use Rattle.cell_memory.proofs.StoredWords.{unchanged, forgotten, known_after}
use Rattle.value_domain.specs.Order.{leq}
use Rattle.cell_memory.specs.Stores.{stored}
use Rattle.cell_memory.proofs.RisingStores.{stored_rises}
use Rattle.cell_memory.proofs.CoveredWords.{covers_stored}
use Rattle.cell_memory.proofs.cells.Cells.store.Goals as goal

pub returns-clause-kept : goal.returns-clause-kept
returns-clause-kept c word never =
    ap (value_at word) c.in_ok-change.ensures.value
    ∙ unchanged c.args.writable.now c.args.address.now c.args.size word c.args.value.now c.args.self.now c.change.ensures.words c.step.ensures.shape never

pub returns-clause-forgotten : goal.returns-clause-forgotten
returns-clause-forgotten c word may never =
    ap (value_at word) c.in_ok-change.ensures.value
    ∙ forgotten c.args.writable.now c.args.address.now c.args.size word c.args.value.now c.args.self.now c.step.ensures.shape may never

pub returns-clause-stored : goal.returns-clause-stored
returns-clause-stored c word may at =
    ap (value_at word) c.in_ok-change.ensures.value
    ∙ known_after c.args.writable.now c.args.address.now c.args.size word c.args.value.now c.args.self.now c.step.ensures.shape may at

pub returns-clause-covers : goal.returns-clause-covers
returns-clause-covers c regions at number covers writable store =
    subst (λ (words : List Word). Covers words (regions_with (store_at at c.args.size) number regions)) (sym c.in_ok-change.ensures.value)
    (covers_stored c.args.writable.now c.args.address.now c.args.size c.args.value.now c.args.self.now regions at number
    c.change.ensures.words c.step.ensures.shape c.step-2.ensures.shape c.requires covers writable store)

pub returns-clause-rises : goal.returns-clause-rises
returns-clause-rises c wider more fewer q m f h k l =
    subst (λ (words : List Word). map_leq leq words (stored c.args.writable.now wider c.args.size more fewer) ≡ true) (sym c.in_ok-change.ensures.value)
    (stored_rises c.args.writable.now c.args.address.now wider c.args.size c.args.value.now more c.args.self.now fewer
    c.change.ensures.words f c.step.ensures.shape q m h k l)
