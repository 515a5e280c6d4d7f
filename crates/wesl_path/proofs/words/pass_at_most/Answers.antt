use Rattle.wesl_path.proofs.WordFacts.{pass_more}
use Rattle.wesl_path.proofs.words.pass_at_most.Goals as goal

pub loop-count-preserved : goal.loop-count-preserved
loop-count-preserved c =
    pass_more c.args.step c.args.text.now c.args.at c.loop-count.count c.loop-count.end c.in-Some.next c.loop-count.invariant c.in-Some.ensures
