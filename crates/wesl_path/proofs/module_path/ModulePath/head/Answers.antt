use Rattle.std.proofs.Common.{◌≡◌, sym, refl, subst}
use Rattle.std.specs.Option.{IsSome}
use Rattle.wesl_path.specs.Heads.{HeadOf}
use Rattle.wesl_path.specs.Texts.{path_text}
use Rattle.wesl_path.proofs.PassedFacts.{head_found}
use Rattle.wesl_path.proofs.module_path.ModulePath.head.Goals as goal

pub unwrap-requires : goal.unwrap-requires
unwrap-requires c =
    let f = head_found c.as_bytes.result.now c.read_origin.result c.as_bytes.ensures.valid c.read_origin.ensures in
    subst IsSome (sym f.1) refl

pub returns : goal.returns
returns c =
    let f = head_found c.as_bytes.result.now c.read_origin.result c.as_bytes.ensures.valid c.read_origin.ensures in
    let e = f.1 in
    let k = c.unwrap.ensures in
    let same : f.0 ≡ c.unwrap.result = cc in
    subst (HeadOf (path_text c.args.self.now)) same (subst (λ x. HeadOf x f.0) c.as_bytes.ensures.value f.2)
