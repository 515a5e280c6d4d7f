-- What is owed of every Mangler, and the words that its results are made of.
use Rattle.std.specs.Prelude.{◌≡◌, ℕ, ◌+◌, ◌-◌, ◌*◌, ◌≤◌, Bool, true, ◌&&◌, List, [], ◌∷◌, ◌++◌, length, take, drop}
use Rattle.wesl_path.specs.Name.{word_bytes, starts_well_text}
use Rattle.wesl_path.specs.Path.{Origin, absolute, packaged, Path}

-- a declaration by its module's path and its own name
pub record Item : Type 0 where
  pub path : Path
  pub name : List ℕ

-- letters, digits and underscores, no digit first
unfoldable pub is_word : List ℕ → Bool
is_word bs = starts_well_text bs && word_bytes bs

-- an identifier of the output: 1 to 1,024 letters, digits and underscores, no digit first
pub record Identifier (bs : List ℕ) : Type 0 where
  pub starts : starts_well_text bs ≡ true
  pub bytes : word_bytes bs ≡ true
  pub short : length bs ≤ 1024

-- the number that a digit more makes
abbrev pub shifted : ℕ → ℕ → ℕ
shifted n b = n * 10 + (b - 48)

-- the last of some words is the name of the item, those before it are components
abbrev pub ended_item : Origin → List (List ℕ) → List (List ℕ) → Item
ended_item o cs [] = record { path = record { origin = o; components = cs }; name = [] }
ended_item o cs (w ∷ []) = record { path = record { origin = o; components = cs }; name = w }
ended_item o cs (w ∷ (v ∷ ws)) = ended_item o (cs ++ w ∷ []) (v ∷ ws)

-- so many of the words are parts of a package
abbrev pub in_package : ℕ → List (List ℕ) → Item
in_package n [] = ended_item absolute [] []
in_package n (w ∷ ws) = ended_item (packaged w (take (n - 1) ws)) [] (drop (n - 1) ws)
