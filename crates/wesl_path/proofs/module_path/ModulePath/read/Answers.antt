use Rattle.std.proofs.Common.{◌≡◌, true, sym, subst}
use Rattle.std.proofs.lemmas.List.{append-nil}
use Rattle.wesl_path.specs.Path.{is_path_text}
use Rattle.wesl_path.proofs.PathFacts.{is_path_decides}
use Rattle.wesl_path.proofs.module_path.ModulePath.read.Goals as goal

pub written-requires : goal.written-requires
written-requires c = λ _. subst (λ x. is_path_text x ≡ true) (sym (append-nil c.args.text.now)) ((is_path_decides c.args.text.now).1 (c.is_path.ensures.0 c.if-not-is_path.false))
