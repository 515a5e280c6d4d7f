use Rattle.std.proofs.Common.{sym}
use Rattle.wesl_path.proofs.OriginFacts.{head_edge}
use Rattle.wesl_path.proofs.ComponentFacts.{passed_components, no_components}
use Rattle.wesl_path.proofs.components.methods.names_end.Goals as goal

pub returns-then-not-is_plain : goal.returns-then-not-is_plain
returns-then-not-is_plain c = no_components c.args.text.now c.word_end-end.result c.word_end-end.ensures.value (sym c.if-not-is_plain.ensures)

pub pass-requires-clause-edge : goal.pass-requires-clause-edge
pass-requires-clause-edge c = head_edge c.args.text.now c.word_end-end.result c.word_end-end.ensures.value

pub returns : goal.returns
returns c =
    λ s. passed_components c.args.text.now c.word_end-end.result c.word_end-end.ensures.value (sym c.if-not-is_plain.ensures) s
    c.pass.result.count c.pass.result.end c.pass.ensures
