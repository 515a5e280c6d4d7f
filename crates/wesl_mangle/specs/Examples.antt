-- Worked examples of joining and of both manglings.
use Rattle.std.specs.Prelude.{◌≡◌, List, [], ◌∷◌, codes}
use Prim.Native.String.{String}
use Rattle.std.specs.List.{AllByRecursion}
use Rattle.wesl_path.specs.Path.{Path, path_of, join_path, shown}
use Rattle.wesl_mangle.specs.Escape.{escape}
use Rattle.wesl_mangle.specs.Counted.{by_lengths}

abbrev pub path_written : String → Path
path_written s = path_of (codes s)

pub data Case : Type 0 where
  -- the second path, read from the module at the first
  joins : (from path result : String) → Case
  -- the names of an item of the module at a path
  escapes : (path item result : String) → Case
  counts : (path item result : String) → Case

abbrev pub Holds : Case → Type 0
Holds (joins p q r) = (join_path (path_written p) (path_written q) ≡ path_written r) × (shown (join_path (path_written p) (path_written q)) ≡ codes r)
Holds (escapes p i r) = escape (path_written p) (codes i) ≡ codes r
Holds (counts p i r) = by_lengths (path_written p) (codes i) ≡ codes r

abbrev pub cases : List Case
cases =
    joins "package::a::b" "super::c" "package::a::c" ∷
    joins "p::a" "q::x" "p/q::x" ∷
    escapes "package::util" "foo" "package_util_foo" ∷
    escapes "super::super" "foo" "super_super_foo" ∷
    escapes "package::my_mod" "a_b_c" "package__1my_mod__2a_b_c" ∷
    escapes "p/q_r" "x" "import_2_p__1q_r_x" ∷
    counts "package::cal" "factor" "p3_cal6_factor" ∷
    []

abbrev pub Worked : Type 0
Worked = AllByRecursion Holds cases
