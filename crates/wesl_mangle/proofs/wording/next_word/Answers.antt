use Rattle.std.proofs.Common.{◌≡◌, ℕ, ◌-◌, length, take, drop, sym, ◌∙◌, arith}
use Rattle.std.proofs.lemmas.List.{take_all, length-drop}
use Rattle.wesl_mangle.proofs.NextWord.{begins, begins_nowhere, words_parted}
use Rattle.wesl_mangle.proofs.wording.next_word.Goals as goal

pub returns-in_err-start-clause-first : goal.returns-in_err-start-clause-first
returns-in_err-start-clause-first c = rw c.from_residual.ensures (begins_nowhere c.args.text.now (sym c.word_start.ensures ∙ c.in_err-start.was))

pub returns-clause-first : goal.returns-clause-first
returns-clause-first c =
    let text = c.args.text.now in
    let start = c.in_ok-start.start in
    let b = begins text start (sym c.word_start.ensures ∙ c.in_ok-start.was) in
    let all : take (length text - start) (drop start text) ≡ drop start text = take_all _ _ (omega (arith, length-drop {A = ℕ})) in
    let parted = words_parted (drop start text) c.word_end.result b.some (rw all at c.word_end.ensures.value) in
    let front = rw all at c.split_at.ensures.front in
    let back = rw all at c.split_at.ensures.back in
    b.same ∙ parted ∙ cc
