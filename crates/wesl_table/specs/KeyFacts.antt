-- Byte strings as keys.
use Rattle.std.specs.Prelude.{refl}
use Rattle.std.proofs.Common.{sym, ◌∙◌}
use Rattle.std.specs.Str.{bytes_eq}
use Rattle.std.proofs.lemmas.Slice.Eq.{bytes_eq-Decides}
use Rattle.wesl_table.specs.Keys.{Equivalence, Exact}

pub bytes_exact : Exact bytes_eq
bytes_exact j k = (bytes_eq-Decides j k).0

pub bytes_equivalence : Equivalence bytes_eq
bytes_equivalence =
    record {
      reflexive = λ k. (bytes_eq-Decides k k).1 refl;
      symmetric = λ j k h. (bytes_eq-Decides k j).1 (sym (bytes_exact j k h));
      transitive = λ i j k h h'. (bytes_eq-Decides i k).1 (bytes_exact i j h ∙ bytes_exact j k h');
    }
