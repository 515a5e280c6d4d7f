use Rattle.std.proofs.Common.{rules, ap, sym, ◌∙◌, refl}
use borrow.Author.Tests.{tests}
use Rattle.wesl_resolve.specs.Bundles.{modules}
use Rattle.wesl_resolve.proofs.BundleFacts.{led_next, none_led, read_from, next_module}
use Rattle.wesl_resolve.proofs.bundle.ModulesIterator.next.Goals as goal

pub returns-in_err-path-clause-steps : goal.returns-in_err-path-clause-steps
returns-in_err-path-clause-steps c =
    let text = c.args.self.now.text.now in
    let r = c.in_err-path.ensures.runs in
    let none = none_led _ r.0 _ r.1 r.2.0 (r.2.1 (λ a q f k. refl)) (λ x k. search (rules, tests)) in
    let from = read_from text c.in_ok-get.field-0.now c.args.self.now.at c.in_ok-get.ensures.lookup.0.2 in
    rw c.from_residual-in_err-path.ensures (sym (ap modules from) ∙ none, refl)

pub returns-clause-steps : goal.returns-clause-steps
returns-clause-steps c =
    let text = c.args.self.now.text.now in
    let r = c.in_ok-path.ensures.ran in
    let rest = c.find_map.new.self in
    let led = led_next _ (λ p q x k. search (rules, tests)) r.0 _ r.3.0 rest _ r.2 r.1 c.in_ok-path.path _ r.3.1 r.3.2 r.4 r.5 (λ x k. search (rules, tests)) in
    let get = c.in_ok-get.ensures.lookup.0 in
    let from = read_from text c.in_ok-get.field-0.now c.args.self.now.at get.2 in
    (next_module text _ _ rest.rest.now c.body_of-text.result.now c.args.self.now.at get.0 from led c.body_of-text.ensures, refl)
