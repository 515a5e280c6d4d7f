use Rattle.std.proofs.Common.{sym}
use Rattle.wesl_path.proofs.OriginFacts.{head_edge, headed_package, headed_self, headed_super, headed_parts, headless_at}
use Rattle.wesl_path.proofs.origin.read_origin.Goals as goal

pub returns-then-same_bytes : goal.returns-then-same_bytes
returns-then-same_bytes c = headed_package c.args.text.now c.word_end-end.result c.word_end-end.ensures.value (sym c.if-same_bytes.ensures)

pub returns-then-same_bytes-2 : goal.returns-then-same_bytes-2
returns-then-same_bytes-2 c = headed_self c.args.text.now c.word_end-end.result c.word_end-end.ensures.value (sym c.if-same_bytes-2.ensures)

pub pass-more-requires-clause-edge : goal.pass-more-requires-clause-edge
pass-more-requires-clause-edge c = head_edge c.args.text.now c.word_end-end.result c.word_end-end.ensures.value

pub returns-then-same_bytes-3 : goal.returns-then-same_bytes-3
returns-then-same_bytes-3 c =
    headed_super c.args.text.now c.word_end-end.result c.word_end-end.ensures.value (sym c.if-same_bytes-3.ensures) c.pass-more.result.count c.pass-more.result.end
    c.pass-more.ensures

pub pass-more-requires-then-is_plain-clause-edge : goal.pass-more-requires-then-is_plain-clause-edge
pass-more-requires-then-is_plain-clause-edge c = head_edge c.args.text.now c.word_end-end.result c.word_end-end.ensures.value

pub returns-then-is_plain : goal.returns-then-is_plain
returns-then-is_plain c =
    let more = c.pass-more-then-is_plain in
    headed_parts c.args.text.now c.word_end-end.result c.word_end-end.ensures.value (sym c.if-is_plain.ensures) more.result.count more.result.end
    more.ensures

pub returns-else-is_plain : goal.returns-else-is_plain
returns-else-is_plain c =
    headless_at c.args.text.now c.word_end-end.result c.word_end-end.ensures.value (sym c.if-same_bytes.ensures) (sym c.if-same_bytes-2.ensures)
    (sym c.if-same_bytes-3.ensures) (sym c.if-is_plain.ensures)
