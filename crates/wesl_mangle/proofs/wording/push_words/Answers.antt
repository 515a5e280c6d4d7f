use Rattle.std.proofs.Common.{◌++◌, ap, length, arith}
use Rattle.std.specs.List.{flat_map}
use Rattle.std.proofs.lemmas.List.{length-append}
use Rattle.wesl_mangle.proofs.wording.push_words.Goals as goal

pub push_word-requires : goal.push_word-requires
push_word-requires g c =
    let whole = simp length-append at (ap length c.loop-word.invariant) in
    let first = simp length-append at (ap (λ ws. length (flat_map (λ w. g.W.Wording.written w ++ g.W.Wording.end) ws)) c.in-Some.ensures.first) in
    let room = c.requires in
    omega arith

pub push-requires : goal.push-requires
push-requires g c =
    let whole = simp length-append at (ap length c.loop-word.invariant) in
    let first = simp length-append at (ap (λ ws. length (flat_map (λ w. g.W.Wording.written w ++ g.W.Wording.end) ws)) c.in-Some.ensures.first) in
    let word = simp length-append at (ap length c.push_word.ensures) in
    let end = ap length c.ending.ensures in
    let room = c.requires in
    omega arith
