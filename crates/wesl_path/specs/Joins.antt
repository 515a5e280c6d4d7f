-- What joining answers.
use Rattle.std.specs.Prelude.{◌≡◌, ℕ, ◌<◌, List, ◌++◌, length, Ok, Err, codes, Result}
use Rattle.wesl_path.specs.Path.{Origin, absolute, relative, packaged, Path, shown, join_path}
use Rattle.wesl_path.specs.Texts.{path_value}
use Rattle.wesl_path.specs.declared.fault.PathFault.{PathFault}
use Rattle.wesl_path.specs.declared.fault.PathFault.TheVariants.{Malformed, Relative as Relative', Long}
use Rattle.wesl_path.specs.declared.module_path.ModulePath.{ModulePath}
use Rattle.wesl_path.specs.declared.origin.PathOrigin.{PathOrigin}
use Rattle.wesl_path.specs.declared.origin.PathOrigin.TheVariants.{Absolute, Relative, Package}

abbrev pub IsRelative : Origin → Type 0
IsRelative absolute = ⊥
IsRelative (relative n) = Unit {0}
IsRelative (packaged part more) = ⊥

-- the path wanted, or that it would pass 255 bytes
abbrev pub Given : Path → Result ModulePath PathFault → Type 0
Given p (Ok m) = path_value m ≡ p
Given p (Err Malformed) = ⊥
Given p (Err Relative') = ⊥
Given p (Err Long) = 255 < length (shown p)

-- the text of a package that a module names, by the module's own origin: inside another package it is one part further down
abbrev pub read_from : PathOrigin → List ℕ → List ℕ → List ℕ
read_from Absolute outer inner = inner
read_from (Relative n) outer inner = inner
read_from (Package n) outer inner = outer ++ (codes "/" ++ inner)

-- `join_path`: the two paths joined, or why not
abbrev pub Joined : Path → Path → Result ModulePath PathFault → Type 0
Joined p q (Ok m) = (IsRelative p.origin → ⊥) × (path_value m ≡ join_path p q)
Joined p q (Err Malformed) = ⊥
Joined p q (Err Relative') = IsRelative p.origin
Joined p q (Err Long) = (IsRelative p.origin → ⊥) × (255 < length (shown (join_path p q)))

-- `push`: the path with one component more, or as it was
abbrev pub Pushed : Path → ModulePath → ModulePath → Result (Unit {0}) PathFault → Type 0
Pushed p was new (Ok _) = path_value new ≡ p
Pushed p was new (Err Malformed) = ⊥
Pushed p was new (Err Relative') = ⊥
Pushed p was new (Err Long) = (255 < length (shown p)) × (new ≡ was)
