-- Components without an origin: plain names parted by `::`.
use Rattle.std.specs.Prelude.{◌≡◌, ℕ, ◌≤◌, Bool, ◌&&◌, List, ◌++◌, length, codes, nat_le}
use Rattle.std.specs.List.{AllByRecursion}
use Rattle.std.specs.Str.{bytes_eq}
use Rattle.wesl_path.specs.Name.{Plain}
use Rattle.wesl_path.specs.Path.{led, words, all_plain}

-- bytes that are one or more plain names parted by `::`, at most 255 bytes: with `::` before them they are words, each led by `::`
pub record AreComponents (bs : List ℕ) : Type 0 where
  pub names : List (List ℕ)
  pub plain : AllByRecursion Plain names
  pub printed : led (codes "::") names ≡ codes "::" ++ bs
  pub short : length bs ≤ 255

-- the same as a test, for the type that keeps them
unfoldable pub are_components_text : List ℕ → Bool
are_components_text bs = bytes_eq (led (codes "::") (words bs)) (codes "::" ++ bs) && (all_plain (words bs) && nat_le (length bs) 255)
