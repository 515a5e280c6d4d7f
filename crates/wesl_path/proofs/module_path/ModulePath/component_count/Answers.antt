use Rattle.std.proofs.Common.{◌+◌, length, sym, ap, ◌∙◌, subst, arith}
use Rattle.wesl_path.specs.Path.{path_of}
use Rattle.wesl_path.specs.Heads.{HeadOf}
use Rattle.wesl_path.proofs.PassedFacts.{own_count, own_edge}
use Rattle.wesl_path.proofs.module_path.ModulePath.component_count.Goals as goal

pub pass-requires-clause-edge : goal.pass-requires-clause-edge
pass-requires-clause-edge c =
    let head = subst (λ x. HeadOf x c.head-end.result) (sym c.as_bytes.ensures.value) c.head-end.ensures in
    own_edge c.as_bytes.result.now c.head-end.result head

pub returns : goal.returns
returns c =
    let text = c.as_bytes.result.now in
    let head = subst (λ x. HeadOf x c.head-end.result) (sym c.as_bytes.ensures.value) c.head-end.ensures in
    own_count text c.head-end.result c.as_bytes.ensures.valid head (c.pass.result.count + 1) c.pass.result.count c.pass.result.end c.pass.ensures (omega arith)
    ∙ ap (λ x. length (path_of x).components) c.as_bytes.ensures.value
