use Rattle.std.proofs.Common.{◌++◌, ap, ◌∙◌}
use Rattle.wesl_path.proofs.WordFacts.{after_lead, led_word_told}
use Rattle.wesl_path.proofs.words.led_word.Goals as goal

pub returns : goal.returns
returns c =
    let found = c.in_ok-rest.ensures.cases in
    let rest = c.in_ok-rest.rest.now in
    let e = after_lead c.args.text.now c.lead.result.now rest c.args.at found.0 found.1 ∙ ap (λ x. x ++ rest) c.lead.ensures in
    let told = led_word_told c.args.step c.args.text.now c.args.at rest c.word_end-end.result c.fits.result c.requires e c.word_end-end.ensures.value c.fits.ensures in
    rw c.then_some.ensures told
