use Rattle.std.proofs.Common.{◌≡◌, ◌++◌, take, codes, subst}
use Rattle.std.proofs.lemmas.List.{take_rest}
use Rattle.wesl_path.specs.Path.{path_of, shown_origin, led, without_last_names}
use Rattle.wesl_path.specs.Texts.{path_text}
use Rattle.wesl_path.proofs.JoinFacts.{seam_absolute, seam_relative, seam_package}
use Rattle.wesl_path.proofs.join.find_seam.Goals as goal

pub returns-in-Absolute : goal.returns-in-Absolute
returns-in-Absolute c =
    let p = c.args.base.now in
    let q = c.args.suffix.now in
    let head = c.head-head.result in
    let tail = c.head-tail.result in
    let a = c.as_bytes-front.ensures.value in
    let b = c.as_bytes-back.ensures.value in
    let rest = take_rest c.as_bytes-back.result.now tail.end in
    let e = seam_absolute (path_text p) (path_text q) head tail q.valid c.head-head.ensures c.head-tail.ensures c.in-Absolute.is in
    cc

pub returns-in-Relative : goal.returns-in-Relative
returns-in-Relative c =
    let p = c.args.base.now in
    let q = c.args.suffix.now in
    let head = c.head-head.result in
    let tail = c.head-tail.result in
    let cut = c.without_last.result in
    let n = c.in-Relative.n in
    let a = c.as_bytes-front.ensures.value in
    let b = c.as_bytes-back.ensures.value in
    let rest = take_rest c.as_bytes-back.result.now tail.end in
    let front = subst (λ x. take cut x ≡ shown_origin (path_of x).origin ++ led (codes "::") (without_last_names n (path_of x).components)) a c.without_last.ensures.front in
    let e = seam_relative (path_text p) (path_text q) head tail q.valid c.head-head.ensures c.head-tail.ensures n cut c.in-Relative.is front in
    cc

pub returns-in-Package : goal.returns-in-Package
returns-in-Package c =
    let p = c.args.base.now in
    let q = c.args.suffix.now in
    let a = c.as_bytes-front.ensures.value in
    let b = c.as_bytes-back.ensures.value in
    let e = seam_package (path_text p) (path_text q) c.head-head.result c.head-tail.result q.valid c.head-head.ensures c.head-tail.ensures c.in-Package.field-0 c.in-Package.is in
    let s = c.package_seam.ensures in
    cc
