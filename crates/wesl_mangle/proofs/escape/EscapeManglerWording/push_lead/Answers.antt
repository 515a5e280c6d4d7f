use Rattle.std.proofs.Common.{ap, ◌∙◌}
use Rattle.wesl_path.specs.Path.{words}
use Rattle.wesl_mangle.proofs.PathWords.{all_words}
use Rattle.wesl_mangle.proofs.escape.EscapeManglerWording.push_lead.Goals as goal

pub returns-clause-text : goal.returns-clause-text
returns-clause-text c = ap words c.as_bytes.ensures.value ∙ all_words c.args.path.now
