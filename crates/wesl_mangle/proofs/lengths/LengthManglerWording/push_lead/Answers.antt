use Rattle.std.proofs.Common.{inl, inr, arith, sym, ap, ◌∙◌}
use Rattle.wesl_path.specs.Path.{words}
use Rattle.wesl_mangle.proofs.PathWords.{package_words, words_after}
use Rattle.wesl_mangle.proofs.lengths.LengthManglerWording.push_lead.Goals as goal

pub returns-in-Package-clause-text : goal.returns-in-Package-clause-text
returns-in-Package-clause-text c = ap words c.as_bytes-text.ensures.value ∙ package_words c.args.path.now c.in-Package.parts (sym c.head-head.ensures.kind ∙ c.in-Package.is)

pub returns-in-Absolute-clause-text : goal.returns-in-Absolute-clause-text
returns-in-Absolute-clause-text c = words_after c.args.path.now c.head-head.result _ _ c.as_bytes-text.ensures.value (omega arith) c.head-head.ensures (inl c.in-Absolute.is)

pub returns-in-Relative-clause-text : goal.returns-in-Relative-clause-text
returns-in-Relative-clause-text c = words_after c.args.path.now c.head-head.result _ _ c.as_bytes-text.ensures.value (omega arith) c.head-head.ensures (inr (c.in-Relative.up, c.in-Relative.is))
