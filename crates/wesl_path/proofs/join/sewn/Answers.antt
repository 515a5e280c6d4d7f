use Rattle.wesl_path.proofs.JoinFacts.{sewn_made, made_path, made_given}
use Rattle.wesl_path.proofs.join.sewn.Goals as goal

pub written-requires : goal.written-requires
written-requires c = made_path _ _ (sewn_made c.args.base.now c.args.suffix.now _ c.find_seam-seam.ensures)

pub returns : goal.returns
returns c = made_given _ _ c.written.result (sewn_made c.args.base.now c.args.suffix.now _ c.find_seam-seam.ensures) c.written.ensures
