use Rattle.std.proofs.Math.Seq.{take-set-lt}
use Rattle.wesl_table.proofs.table.Table.replace.Goals as goal

pub returns-then-i-self-clause-after : goal.returns-then-i-self-clause-after
returns-then-i-self-clause-after g c = take-set-lt c.args.self.now.count c.args.self.now.cells.now c.args.i c.args.record c.if-i-self.true
