use Rattle.wesl_path.proofs.PassedFacts.{same_answer}
use Rattle.wesl_path.proofs.module_path.methods.ModulePathPartialEq.eq.Goals as goal

pub returns-clause-same : goal.returns-clause-same
returns-clause-same c =
    same_answer c.args.self.now c.args.other.now c.same_bytes.result
    (let a = c.as_bytes.ensures.value in
    let b = c.as_bytes-2.ensures.value in
    let e = c.same_bytes.ensures in
    cc)
