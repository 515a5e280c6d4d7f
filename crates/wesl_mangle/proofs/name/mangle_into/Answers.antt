use Rattle.std.proofs.Common.{subst}
use Rattle.wesl_mangle.specs.Writes.{Answered}
use Rattle.wesl_mangle.proofs.Kept.{path_sound, name_plain}
use Rattle.wesl_mangle.proofs.Names.{delivered_word, room_enough}
use Rattle.wesl_mangle.proofs.name.mangle_into.Goals as goal

pub unwrap-requires : goal.unwrap-requires
unwrap-requires g c =
    let named = g.met.M.Mangler.named c.args.mangler.now _ _ (path_sound c.args.path.now) (name_plain c.args.item.now) in
    room_enough _ _ _ _ c.mangle.ensures named.short c.told-out

pub returns-clause-word : goal.returns-clause-word
returns-clause-word g c =
    let named = g.met.M.Mangler.named c.args.mangler.now _ _ (path_sound c.args.path.now) (name_plain c.args.item.now) in
    delivered_word _ _ _ _ (subst (Answered _ _ _) c.unwrap.ensures c.mangle.ensures) named
