-- The mangling by lengths: each word is led by its length.
use Rattle.std.specs.Prelude.{ℕ, zero, suc, ◌+◌, cond, List, [], ◌∷◌, ◌++◌, length, codes, decimal, ◌==◌}
use Rattle.std.specs.List.{flat_map}
use Rattle.wesl_path.specs.Path.{Origin, absolute, relative, packaged, Path}
use Rattle.wesl_mangle.specs.Mangle.{Item, shifted, ended_item, in_package}

-- a word after its length
unfoldable pub counted : List ℕ → List ℕ
counted w = decimal (length w) ++ (95 ∷ w)

-- `p` for the root, `r` and how far up, `k` and how many parts
abbrev pub counted_origin : Origin → List ℕ
counted_origin absolute = codes "p"
counted_origin (relative n) = codes "r" ++ (decimal n ++ codes "_")
counted_origin (packaged part more) = codes "k" ++ (decimal (1 + length more) ++ codes "_")

abbrev pub package_parts : Origin → List (List ℕ)
package_parts absolute = []
package_parts (relative n) = []
package_parts (packaged part more) = part ∷ more

unfoldable pub by_lengths : Path → List ℕ → List ℕ
by_lengths p item = counted_origin p.origin ++ (flat_map counted (package_parts p.origin ++ p.components) ++ counted item)

-- The way back: in a word's length, or in a word of which so many bytes are yet to come.
pub data Reading : Type 0 where
  counting : ℕ → Reading
  inside : (before : List ℕ) → (left : ℕ) → Reading

-- the words of a text by lengths
abbrev pub uncounted : Reading → List ℕ → List (List ℕ)
uncounted (counting n) [] = []
uncounted (inside w left) [] = w ∷ []
uncounted (counting n) (b ∷ bs) = cond (b == 95) (uncounted (inside [] n) bs) (uncounted (counting (shifted n b)) bs)
uncounted (inside w zero) (b ∷ bs) = w ∷ uncounted (counting (shifted 0 b)) bs
uncounted (inside w (suc left)) (b ∷ bs) = uncounted (inside (w ++ b ∷ []) left) bs

-- how far up, and then the words
abbrev pub counted_up : ℕ → List ℕ → Item
counted_up n [] = ended_item (relative n) [] []
counted_up n (b ∷ bs) = cond (b == 95) (ended_item (relative n) [] (uncounted (counting 0) bs)) (counted_up (shifted n b) bs)

-- how many parts, and then the words
abbrev pub counted_parts : ℕ → List ℕ → Item
counted_parts n [] = in_package n []
counted_parts n (b ∷ bs) = cond (b == 95) (in_package n (uncounted (counting 0) bs)) (counted_parts (shifted n b) bs)

-- the declaration that a name by lengths stands for
unfoldable pub from_lengths : List ℕ → Item
from_lengths [] = ended_item absolute [] []
from_lengths (b ∷ bs) =
    cond (b == 112) (ended_item absolute [] (uncounted (counting 0) bs)) (cond (b == 114) (counted_up 0 bs) (counted_parts 0 bs))
