use Rattle.std.proofs.Common.{eqb, rules}
use borrow.Author.Tests.{tests}
use Rattle.std.proofs.lemmas.Fn.{always_returns_same}
use Rattle.wesl_resolve.proofs.LineFacts.{lines-cut}
use Rattle.wesl_resolve.proofs.lines.LinesIterator.next.Goals as goal

pub returns-clause-steps : goal.returns-clause-steps
returns-clause-steps c =
    let s = c.in_ok-line.ensures.steps in
    let first = (s.1.2 (λ b. eqb b 10) (always_returns_same _ _ _ (λ a r q k. search (rules, tests)))).1 in
    lines-cut _ _ _ _ s.1.0 c.split_inclusive.ensures.rest s.0 s.2 s.1.1 first
