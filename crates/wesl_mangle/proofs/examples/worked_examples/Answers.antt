use Rattle.std.proofs.Common.{refl}
use Rattle.std.specs.Fmt.{digits}
use Rattle.wesl_path.specs.Path.{path_of, words, slashes, shown}
use Rattle.wesl_mangle.specs.Escape.{underscores, escaped, escape}
use Rattle.wesl_mangle.specs.Counted.{counted, by_lengths}
use Rattle.wesl_mangle.proofs.examples.worked_examples.Goals as goal

pub returns-clause-hold : goal.returns-clause-hold
unfolding digits path_of words slashes shown underscores escaped escape counted by_lengths
returns-clause-hold c = ((refl, refl), ((refl, refl), (refl, (refl, (refl, (refl, (refl, tt)))))))
