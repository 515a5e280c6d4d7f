use Rattle.std.proofs.Common.{arith}
use Rattle.std.proofs.lemmas.Result.{err_from_is_err_and}
use Rattle.wesl_path.specs.Texts.{path_text}
use Rattle.wesl_resolve.specs.declared.virtual_resolver.VirtualModule.{VirtualModule}
use Rattle.wesl_resolve.proofs.VirtualFacts.{in_place, at_end, refused, full, remaps}
use Rattle.wesl_resolve.proofs.virtual_resolver.VirtualResolver.add_module.Goals as goal

pub returns-in-Some : goal.returns-in-Some
returns-in-Some c =
    let t = c.args.self.now.modules in
    let m : VirtualModule = record { path = c.args.path.now; text = c.args.text } in
    let a = in_place t m c.replace.new.self c.in-Some.i (rw c.as_bytes.ensures.value at c.in-Some.ensures) c.replace.ensures.after c.replace.ensures.same in
    record { added = a; meaning = remaps (path_text m.path) m.text.now t c.replace.new.self a }

pub returns-then-len-ge-MOST_MODULES-clause-added :
    goal.returns-then-len-ge-MOST_MODULES-clause-added
returns-then-len-ge-MOST_MODULES-clause-added c = full c.args.self.now.modules (path_text c.args.path.now) c.args.text.now (rw c.as_bytes.ensures.value at c.in_default.ensures) (omega arith)

pub returns-in_err-push-clause-added : goal.returns-in_err-push-clause-added
returns-in_err-push-clause-added c =
    let m : VirtualModule = record { path = c.args.path.now; text = c.args.text } in
    let q = err_from_is_err_and c.from_residual.result c.from_residual.ensures.1 in
    rw (q.1, q.2)
    (refused c.args.self.now.modules m c.push.new.self c.in_err-push.field-0.0 (rw c.as_bytes.ensures.value at c.in_default.ensures) c.in_err-push.ensures)

pub returns : goal.returns
returns c =
    let t = c.args.self.now.modules in
    let m : VirtualModule = record { path = c.args.path.now; text = c.args.text } in
    let a = at_end t m c.push.new.self (rw c.as_bytes.ensures.value at c.in_default.ensures) (omega arith) c.in_ok-push.ensures in
    record { added = a; meaning = remaps (path_text m.path) m.text.now t c.push.new.self a }
