use Rattle.std.proofs.Common.{rules}
use borrow.Author.Tests.{tests}
use Rattle.wesl_resolve.specs.Bundles.{Leads}
use Rattle.wesl_resolve.proofs.BundleFacts.{leads_from, passed, line_within, body_before, body_all}
use Rattle.wesl_resolve.proofs.bundle.body_of.Goals as goal

pub slice_bounds-result-count : goal.slice_bounds-result-count
slice_bounds-result-count c =
    let r = c.in-Some.ensures.ran in
    let p = passed _ (λ p q x k. search (rules, tests)) r.0 _ r.2.0 _ r.1 r.2.1 r.3 in
    line_within c.args.text.now r.2.0.rest.now _ _ p r.2.2

pub returns-in-Some : goal.returns-in-Some
returns-in-Some c =
    let r = c.in-Some.ensures.ran in
    let p = passed _ (λ p q x k. search (rules, tests)) r.0 _ r.2.0 _ r.1 r.2.1 r.3 in
    let k = r.4.1 in
    let h : Leads c.in-Some.line.now = search (rules, tests, leads_from) in
    body_before c.args.text.now r.2.0.rest.now _ _ p r.2.2 h

pub returns-in-None : goal.returns-in-None
returns-in-None c =
    let r = c.in-None.ensures.ran in
    let p = passed _ (λ p q x k. search (rules, tests)) r.0 _ r.2.0 _ r.1 r.2.1 r.3 in
    body_all c.args.text.now r.2.0.rest.now p r.2.2.0
