-- The origin at the front of a text.
use Rattle.std.specs.Prelude.{◌≡◌, ℕ, ◌+◌, ◌≤◌, List, ◌++◌, length, take, drop, codes, ◌≢◌}
use Rattle.std.specs.List.{AllByRecursion}
use Rattle.wesl_path.specs.Name.{Plain}
use Rattle.wesl_path.specs.Path.{Origin, absolute, relative, packaged, Path, led, shown_origin, shown, PlainOrigin, path_of}
use Rattle.wesl_path.specs.Words.{Boundary}
use Rattle.wesl_path.specs.declared.origin.PathOrigin.{PathOrigin}
use Rattle.wesl_path.specs.declared.origin.PathOrigin.TheVariants.{Absolute, Relative, Package}
use Rattle.wesl_path.specs.declared.origin.Head.{Head}

-- an origin without its names: how far up, or how many parts
abbrev pub kind_of : Origin → PathOrigin
kind_of absolute = Absolute
kind_of (relative n) = Relative n
kind_of (packaged part more) = Package (1 + length more)

-- a text that begins with an origin, and no other path than with this origin can be read from it
pub record Headed (text : List ℕ) (h : Head) : Type 0 where
  pub found : Origin
  pub plain : PlainOrigin found
  pub kind : h.origin ≡ kind_of found
  pub reads : text ≡ shown_origin found ++ drop h.end text
  pub edge : Boundary (drop h.end text)
  pub within : h.end ≤ length text
  pub only : (p : Path) → PlainOrigin p.origin → AllByRecursion Plain p.components → text ≡ shown p → (p.origin ≡ found) × (drop h.end text ≡ led (codes "::") p.components)

-- a text from which no path can be read, whatever its length
abbrev pub Headless : List ℕ → Type 0
Headless text = (p : Path) → PlainOrigin p.origin → AllByRecursion Plain p.components → text ≢ shown p

-- a path's own origin, and where its bytes end
pub record HeadOf (text : List ℕ) (h : Head) : Type 0 where
  pub kind : h.origin ≡ kind_of (path_of text).origin
  pub front : take h.end text ≡ shown_origin (path_of text).origin
  pub back : drop h.end text ≡ led (codes "::") (path_of text).components
  pub within : h.end ≤ length text
