use Rattle.std.proofs.Common.{rules, ap}
use borrow.Author.Tests.{tests}
use Rattle.std.specs.Str.{bytes_eq}
use Rattle.std.proofs.lemmas.Iterator.Search.{find_from_yields_List}
use Rattle.wesl_path.specs.Texts.{path_text}
use Rattle.wesl_resolve.specs.Sources.{Source}
use Rattle.wesl_resolve.specs.Bundles.{modules}
use Rattle.wesl_resolve.proofs.BundleFacts.{YieldsList-from_modules, text_found}
use Rattle.wesl_resolve.proofs.bundle.Bundle.source.Goals as goal

pub returns : goal.returns
returns c =
    let text = c.args.self.now.text.now in
    let p = path_text c.args.path.now in
    let chain = YieldsList-from_modules text c.modules.result (ap (λ x. x.now) c.modules.ensures.text) c.modules.ensures.start in
    let found = find_from_yields_List (λ (s : Source). bytes_eq s.path p) _ _ c.find.result c.find.ensures.ran chain (λ x b q k. search (rules, tests)) in
    text_found (modules text) p c.find.result c.map.result _ found c.map.ensures.cases (λ x y k. search (rules, tests))
