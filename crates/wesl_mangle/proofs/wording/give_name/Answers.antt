use Rattle.std.proofs.Common.{ap, ◌∙◌}
use Rattle.wesl_path.specs.Texts.{path_value, name_text}
use Rattle.wesl_mangle.proofs.Kept.{path_sound, name_plain}
use Rattle.wesl_mangle.proofs.Names.{answered_back}
use Rattle.wesl_mangle.proofs.wording.give_name.Goals as goal

pub returns-clause-back : goal.returns-clause-back
returns-clause-back g c =
    let path = c.args.path.now in
    let item = c.args.item.now in
    answered_back _ _ _ _ g.W.Wording.back _ c.deliver.ensures
    (ap g.W.Wording.back c.write_name.ensures ∙ g.met.W.Wording.goes_back (path_value path) (name_text item) (path_sound path) (name_plain item))
