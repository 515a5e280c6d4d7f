use Rattle.std.proofs.Common.{rules}
use Rattle.wesl_path.proofs.JoinFacts.{pushed_made, made_path, made_value, made_long}
use Rattle.wesl_path.proofs.module_path.ModulePath.push.Goals as goal

pub written-requires : goal.written-requires
written-requires c =
    made_path _ _ (pushed_made c.args.self.now c.args.item.now c.as_bytes.result.now c.as_bytes-2.result.now c.as_bytes.ensures.value c.as_bytes-2.ensures.value)

pub returns-in_err-self : goal.returns-in_err-self
returns-in_err-self c =
    let m = pushed_made c.args.self.now c.args.item.now c.as_bytes.result.now c.as_bytes-2.result.now c.as_bytes.ensures.value c.as_bytes-2.ensures.value in
    let l = made_long _ _ m c.in_err-self.ensures.1 in
    search rules

pub returns : goal.returns
returns c =
    let m = pushed_made c.args.self.now c.args.item.now c.as_bytes.result.now c.as_bytes-2.result.now c.as_bytes.ensures.value c.as_bytes-2.ensures.value in
    made_value _ _ c.in_ok-self.field-0 m c.in_ok-self.ensures
