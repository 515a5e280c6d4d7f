use Rattle.std.proofs.Common.{◌≡◌, length, arith, rules}
use Rattle.wesl_resolve.proofs.CellFacts.{missed}
use Rattle.wesl_resolve.proofs.cell.FaultCell.not_found.Goals as goal

pub returns : goal.returns
returns c =
    let l : length c.args.self.now.bytes ≡ 2558 = search rules in
    rw (← c.as_bytes-bytes.ensures.value) (missed _ c.args.self.now (record { bytes = c.put.new.out }) (omega arith) c.put.ensures)
