use Rattle.wesl_path.specs.Words.{Passing}
use Rattle.wesl_path.proofs.words.pass_at_most.Given as goal

-- the words so far are as many as if so many had been asked for
abbrev pub invariant-loop-count : goal.invariant-loop-count
invariant-loop-count l = Passing l.step l.count l.text l.at l.count l.end
