use Rattle.std.proofs.Common.{sym}
use Rattle.wesl_path.specs.Texts.{path_text}
use Rattle.wesl_resolve.proofs.VirtualFacts.{found_text, none_held}
use Rattle.wesl_resolve.proofs.virtual_resolver.VirtualResolverResolver.resolve_source.Goals as goal

pub returns-in_err-i : goal.returns-in_err-i
returns-in_err-i c = rw c.from_residual.ensures (sym (none_held c.args.self.now.modules (path_text c.args.path.now) (rw c.as_bytes.ensures.value at c.in_err-i.ensures)))

pub returns : goal.returns
returns c = found_text c.args.self.now.modules (path_text c.args.path.now) c.in_ok-i.i c.at.result (rw c.as_bytes.ensures.value at c.in_ok-i.ensures) c.at.ensures
