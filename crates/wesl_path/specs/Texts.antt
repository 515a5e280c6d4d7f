-- What the types that keep a path, components or a name hold.
use Rattle.std.specs.Prelude.{◌≡◌, ℕ, Bool, true, List, Decides}
use Rattle.wesl_path.specs.Inline.{held}
use Rattle.wesl_path.specs.Path.{Path, path_of, words}
use Rattle.wesl_path.specs.declared.module_path.ModulePath.{ModulePath}
use Rattle.wesl_path.specs.declared.components.Components.{Components}
use Rattle.wesl_path.specs.declared.name.PlainName.{PlainName}

-- a path's bytes, and the path that they are
abbrev pub path_text : ModulePath → List ℕ
path_text m = held m.text

abbrev pub path_value : ModulePath → Path
path_value m = path_of (path_text m)

-- a name's bytes
abbrev pub name_text : PlainName → List ℕ
name_text n = held n.text

-- the bytes of components, and the names that they are
abbrev pub components_text : Components → List ℕ
components_text cs = held cs.text

abbrev pub components_value : Components → List (List ℕ)
components_value cs = words (components_text cs)

-- `==` at paths: the answer tells equal bytes, and with them equal paths
abbrev pub SameAnswer : ModulePath → ModulePath → Bool → Type 0
SameAnswer a b r = Decides r (path_text a ≡ path_text b) × Decides r (path_value a ≡ path_value b)

-- whatever answers so is an equivalence
pub record Equivalence : Type 0 where
  pub reflexive : (a : ModulePath) (r : Bool) → SameAnswer a a r → r ≡ true
  pub symmetric : (a b : ModulePath) (r s : Bool) → SameAnswer a b r → SameAnswer b a s → r ≡ s
  pub transitive : (a b c : ModulePath) (r s t : Bool) → SameAnswer a b r → SameAnswer b c s → SameAnswer a c t → r ≡ true → s ≡ true → t ≡ true
