use Rattle.std.proofs.Common.{◌+◌, ◌-◌, ap, ◌∙◌, arith}
use Rattle.wesl_path.proofs.PassedFacts.{own_count, own_edge}
use Rattle.wesl_path.proofs.JoinFacts.{cut_front}
use Rattle.wesl_path.proofs.join.without_last.Goals as goal

pub pass-all-requires-clause-edge : goal.pass-all-requires-clause-edge
pass-all-requires-clause-edge c = own_edge c.args.text.now c.args.head c.requires.own

pub pass_at_most-requires-clause-edge : goal.pass_at_most-requires-clause-edge
pass_at_most-requires-clause-edge c = own_edge c.args.text.now c.args.head c.requires.own

pub returns-clause-front : goal.returns-clause-front
returns-clause-front c =
    let text = c.args.text.now in
    let all = own_count text c.args.head c.requires.valid c.requires.own (c.pass-all.result.count + 1) c.pass-all.result.count c.pass-all.result.end c.pass-all.ensures (omega arith) in
    cut_front text c.args.head c.requires.valid c.requires.own c.args.n c.saturating_sub.result c.pass_at_most.result.count c.pass_at_most.result.end c.pass_at_most.ensures
    (c.saturating_sub.ensures ∙ ap (λ k. k - c.args.n) all)
