use Rattle.wesl_path.proofs.PassedFacts.{passed_decides}
use Rattle.wesl_path.proofs.module_path.methods.words_end.Goals as goal

pub returns : goal.returns
returns c =
    passed_decides c.args.text.now c.in_ok-head.head c.in_ok-head.ensures c.pass.result.count c.pass.result.end c.pass.ensures
