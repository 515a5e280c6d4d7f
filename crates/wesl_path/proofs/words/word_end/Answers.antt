use Rattle.std.proofs.Common.{drop, ◌∙◌}
use Rattle.std.proofs.lemmas.List.{take_rest}
use Rattle.wesl_path.proofs.WordFacts.{first_word_length}
use Rattle.wesl_path.proofs.words.word_end.Goals as goal

pub returns-clause-value : goal.returns-clause-value
returns-clause-value c =
    let rest = c.in-Some.ensures.lookup.0.2 ∙ take_rest c.args.text.now c.args.at in
    let e = first_word_length (drop c.args.at c.args.text.now) in
    cc
