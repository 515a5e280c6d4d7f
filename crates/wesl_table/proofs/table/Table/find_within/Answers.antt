use Rattle.std.proofs.Common.{rules, ◌≡◌, ◌+◌, min, length, ◌∙◌}
use Rattle.std.specs.Option.{option_map}
use Rattle.std.proofs.lemmas.Iterator.{IsFirst-from_position, YieldsList-from_slice}
use borrow.Author.Tests.{tests}
use Rattle.wesl_table.specs.Keys.{First}
use Rattle.wesl_table.specs.Tables.{records}
use Rattle.wesl_table.proofs.PartFacts.{first_in_part}
use Rattle.wesl_table.proofs.table.Table.find_within.Given.{Over}
use Rattle.wesl_table.proofs.table.Table.find_within.Goals.{After-position}
use Rattle.wesl_table.proofs.table.Table.find_within.Goals as goal

first : (g : Over) (c : After-position g) → First (λ x. g.T.Keyed.key x c.args.text.now ≡ c.args.sought.now) (records c.args.self.now) c.args.low (min c.args.high (length (records c.args.self.now))) (option_map (λ i. c.args.low + i) c.position.result)
first g c =
    let Has = λ (x : g.row.T.Denot). g.T.Keyed.key x c.args.text.now ≡ c.args.sought.now in
    let part = c.in_ok-part.ensures.lookup.0 in
    let found =
    IsFirst-from_position _ _ c.position.result Has (λ x. Has x → ⊥) c.position.ensures.ran
    (YieldsList-from_slice _ (c.iter.ensures.rest ∙ part.2)) (λ x q k. search (rules, tests)) (λ x q k. search (rules, tests)) in
    rw (← c.len.ensures, ← c.min-high.ensures, ← c.records.ensures)
    (first_in_part c.records.result.now c.args.low c.min-high.result Has c.position.result part.0 part.1 found)

pub returns : goal.returns
returns g c = rw c.in_ok-i.was at (first g (goal.at.returns g c).After-position)

pub returns-in_err-i : goal.returns-in_err-i
returns-in_err-i g c = rw c.from_residual-in_err-i.ensures (rw c.in_err-i.was at (first g (goal.at.returns-in_err-i g c).After-position))
