use Rattle.std.proofs.Common.{ℕ, Bor, List, rules, refl}
use borrow.Author.Tests.{tests}
use Rattle.std.proofs.lemmas.Iterator.{IsFirst-from_position}
use Rattle.std.proofs.lemmas.Iterator.Consumers.{YieldsList-from_first}
use Rattle.wesl_resolve.specs.Lines.{lines, lines_left}
use Rattle.wesl_resolve.specs.Bundles.{Strays, Leads}
use Rattle.wesl_resolve.proofs.BundleFacts.{leads_from}
use Rattle.wesl_resolve.proofs.BreakFacts.{broken_next}
use Rattle.wesl_resolve.proofs.bundle.first_broken.Goals as goal

pub returns : goal.returns
returns c =
    let rest = c.next.new.self.rest.now in
    let leads : Leads c.in_ok-first.first.now = leads_from _ c.path_led.result c.path_led.ensures c.if-is_none.ensures in
    let chain = YieldsList-from_first (λ (line : Bor (List ℕ)). line.now) lines_left {s = c.next.new.self} (lines rest) refl in
    let at = IsFirst-from_position c.position.new.self _ c.position.result Strays (λ l. Strays l → ⊥) c.position.ensures.ran chain (λ x q k. search (rules, tests)) (λ x q k. (refl, search (rules, tests))) in
    broken_next c.args.text.now c.in_ok-first.first.now (lines rest) c.in_ok-first.ensures.steps leads c.position.result c.map.result _ at c.map.ensures.cases (λ i j k. search (rules, tests))
