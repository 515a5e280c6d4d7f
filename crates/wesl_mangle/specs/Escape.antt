-- The escape mangling: `_` parts the words, and a word that has underscores is led by `_` and their number.
use Rattle.std.specs.Prelude.{ℕ, zero, suc, ◌+◌, ◌-◌, cond, List, [], ◌∷◌, ◌++◌, map, length, replicate, codes, decimal, count_by, ◌==◌, nat_eq}
use Rattle.std.specs.Str.{bytes_eq}
use Rattle.wesl_path.specs.Name.{digit}
use Rattle.wesl_path.specs.Path.{Origin, absolute, relative, packaged, Path, led}
use Rattle.wesl_mangle.specs.Mangle.{Item, shifted, ended_item, in_package}

unfoldable pub underscores : List ℕ → ℕ
underscores w = count_by (λ b. nat_eq b 95) w

-- a word with underscores is led by `_` and how many it has
unfoldable pub escaped : List ℕ → List ℕ
escaped w = cond (underscores w == 0) w (95 ∷ (decimal (underscores w) ++ w))

-- a package of several parts is led by `import` and how many they are
abbrev pub escaped_origin : Origin → List ℕ
escaped_origin absolute = codes "package"
escaped_origin (relative zero) = codes "self"
escaped_origin (relative (suc n)) = codes "super" ++ led (codes "_") (replicate n (codes "super"))
escaped_origin (packaged part []) = escaped part
escaped_origin (packaged part (next ∷ more)) = codes "import_" ++ (decimal (2 + length more) ++ led (codes "_") (map escaped (part ∷ (next ∷ more))))

-- what stands before the words of a package of several parts
abbrev pub package_lead : Origin → List ℕ
package_lead absolute = []
package_lead (relative n) = []
package_lead (packaged part []) = []
package_lead (packaged part (next ∷ more)) = codes "import_" ++ (decimal (2 + length more) ++ codes "_")

unfoldable pub escape : Path → List ℕ → List ℕ
escape p item = escaped_origin p.origin ++ (led (codes "_") (map escaped p.components) ++ (codes "_" ++ escaped item))

-- The way back: where a word begins, in the number that leads it, or in a word with so many underscores yet to come.
pub data Reading : Type 0 where
  fresh : Reading
  counting : ℕ → Reading
  inside : (before : List ℕ) → (left : ℕ) → Reading

-- the words of an escaped text
abbrev pub unescaped : Reading → List ℕ → List (List ℕ)
unescaped fresh [] = []
unescaped (counting n) [] = [] ∷ []
unescaped (inside w left) [] = w ∷ []
unescaped fresh (b ∷ bs) = cond (b == 95) (unescaped (counting 0) bs) (unescaped (inside (b ∷ []) 0) bs)
unescaped (counting n) (b ∷ bs) =
    cond (digit b) (unescaped (counting (shifted n b)) bs)
    (cond (b == 95) (unescaped (inside (b ∷ []) (n - 1)) bs) (unescaped (inside (b ∷ []) n) bs))
unescaped (inside w zero) (b ∷ bs) = cond (b == 95) (w ∷ unescaped fresh bs) (unescaped (inside (w ++ b ∷ []) 0) bs)
unescaped (inside w (suc left)) (b ∷ bs) = cond (b == 95) (unescaped (inside (w ++ b ∷ []) left) bs) (unescaped (inside (w ++ b ∷ []) (suc left)) bs)

-- the number that decimal digits write
abbrev pub numbered : ℕ → List ℕ → ℕ
numbered n [] = n
numbered n (b ∷ bs) = numbered (shifted n b) bs

-- so many times `super` has gone before
abbrev pub after_super : ℕ → List (List ℕ) → Item
after_super n [] = ended_item (relative n) [] []
after_super n (w ∷ ws) = cond (bytes_eq w (codes "super")) (after_super (suc n) ws) (ended_item (relative n) [] (w ∷ ws))

abbrev pub after_import : List (List ℕ) → Item
after_import [] = ended_item absolute [] []
after_import (w ∷ ws) = in_package (numbered 0 w) ws

-- the item of which these are the words
abbrev pub item_of : List (List ℕ) → Item
item_of [] = ended_item absolute [] []
item_of (w ∷ ws) =
    cond (bytes_eq w (codes "package")) (ended_item absolute [] ws)
    (cond (bytes_eq w (codes "self")) (ended_item (relative 0) [] ws)
    (cond (bytes_eq w (codes "super")) (after_super 1 ws)
    (cond (bytes_eq w (codes "import")) (after_import ws) (in_package 1 (w ∷ ws)))))

-- the declaration that an escaped name stands for
unfoldable pub unescape : List ℕ → Item
unescape bs = item_of (unescaped fresh bs)
