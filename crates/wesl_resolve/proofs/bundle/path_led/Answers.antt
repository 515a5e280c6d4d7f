use Rattle.std.proofs.Common.{[], ◌∷◌, Some, codes}
use Rattle.std.proofs.lemmas.Bool.Decides.{Decides-eqb}
use Rattle.std.proofs.lemmas.Slice.Eq.{strip_prefix_is, strip_suffix_is}
use Rattle.wesl_resolve.proofs.BundleFacts.{path_told}
use Rattle.wesl_resolve.proofs.bundle.path_led.Goals as goal

pub returns : goal.returns
returns c =
    let line = c.args.line.now in
    let rest = c.in_ok-strip_prefix.field-0 in
    let path = c.in_ok-path.path in
    let front = strip_prefix_is Decides-eqb line (codes "M\t") (Some rest) c.in_ok-strip_prefix.ensures.cases in
    let back = strip_suffix_is Decides-eqb rest.now (10 ∷ []) (Some path) c.in_ok-path.ensures.cases in
    path_told line rest.now path c.is_path.result c.then_some.result front back c.is_path.ensures c.then_some.ensures
