-- `==` of paths as a function, and the law that the library asks of it.
use Rattle.std.specs.Prelude.{Bool}
use Rattle.std.specs.Bool.{one_answer}
use Rattle.std.specs.Cmp.{IsPartialEquivalence}
use Rattle.std.specs.Str.{bytes_eq}
use Rattle.std.proofs.Common.{sym, ◌∙◌}
use Rattle.std.proofs.lemmas.Slice.Eq.{bytes_eq-Decides}
use Rattle.wesl_path.specs.Texts.{path_text}
use Rattle.wesl_path.specs.declared.module_path.ModulePath.{ModulePath}

abbrev pub path_eq : ModulePath → ModulePath → Bool
path_eq a b = bytes_eq (path_text a) (path_text b)

pub path_eq_laws : IsPartialEquivalence path_eq
path_eq_laws =
    record {
      symm = λ a b.
          let d = bytes_eq-Decides (path_text a) (path_text b) in
          let e = bytes_eq-Decides (path_text b) (path_text a) in
          one_answer (path_eq a b) (path_eq b a) d ((λ h. sym (e.0 h)), (λ h. e.1 (sym h)));
      trans = λ a b c e f.
          (bytes_eq-Decides (path_text a) (path_text c)).1
          ((bytes_eq-Decides (path_text a) (path_text b)).0 e ∙ (bytes_eq-Decides (path_text b) (path_text c)).0 f);
    }
