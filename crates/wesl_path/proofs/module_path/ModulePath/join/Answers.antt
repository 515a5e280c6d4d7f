use Rattle.wesl_path.proofs.JoinFacts.{joined_made, made_path, made_given}
use Rattle.wesl_path.proofs.module_path.ModulePath.join.Goals as goal

pub written-requires : goal.written-requires
written-requires c =
    made_path _ _ (joined_made c.args.self.now c.args.suffix.now c.as_bytes.result.now c.as_bytes-2.result.now c.as_bytes.ensures.value c.as_bytes-2.ensures.value)

pub returns : goal.returns
returns c =
    made_given _ _ c.written.result (joined_made c.args.self.now c.args.suffix.now c.as_bytes.result.now c.as_bytes-2.result.now c.as_bytes.ensures.value c.as_bytes-2.ensures.value) c.written.ensures
