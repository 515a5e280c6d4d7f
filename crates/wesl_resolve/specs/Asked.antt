-- What asking Resolvers answers.
use Rattle.std.specs.Prelude.{◌≡◌, ℕ, ◌+◌, ◌<◌, List, length, Some, None, Ok, Err, Option, Result}
use Rattle.std.specs.Borrow.{Bor}
use Rattle.std.specs.List.{HoldsAt, AllWithin}
use Rattle.wesl_path.specs.Texts.{path_text}
use Rattle.wesl_path.specs.declared.module_path.ModulePath.{ModulePath}
use Rattle.wesl_resolve.specs.Sources.{Texts, text_at}
use Rattle.wesl_resolve.specs.Bundles.{modules, Unbroken, BrokenAt}
use Rattle.wesl_resolve.specs.Cells.{Missed}
use Rattle.wesl_resolve.specs.declared.cell.FaultCell.{FaultCell}
use Rattle.wesl_resolve.specs.declared.fault.ListingFault.TheVariants.{Broken}
use Rattle.wesl_resolve.specs.declared.fault.ResolveFault.{ResolveFault}
use Rattle.wesl_resolve.specs.declared.fault.ResolveFault.TheVariants.{Missing, NoRoom, Listing}

-- two maps give one answer for a path
abbrev pub Alike : Texts → Texts → ModulePath → Type 0
Alike a b p = a (path_text p) ≡ b (path_text p)

-- the first path for which they do not, or none
abbrev pub Differs : Texts → Texts → List ModulePath → Option ℕ → Type 0
Differs a b ps None = AllWithin (Alike a b) ps 0 (length ps)
Differs a b ps (Some i) = (i < length ps) × HoldsAt (λ p. Alike a b p → ⊥) ps i × AllWithin (Alike a b) ps 0 i

-- a module's text in a bundle that is yet to be read
abbrev pub FoundIn : List ℕ → List ℕ → FaultCell → FaultCell → Result (Bor (List ℕ)) ResolveFault → Type 0
FoundIn text p was new (Ok t) = Unbroken text × (text_at (modules text) p ≡ Some t.now) × (new ≡ was)
FoundIn text p was new (Err (Missing m q)) = Unbroken text × (text_at (modules text) p ≡ None) × Missed p was new (Missing m q)
FoundIn text p was new (Err NoRoom) = ⊥
FoundIn text p was new (Err (Listing f)) = (i : ℕ) × BrokenAt text i × (f ≡ Broken None (i + 1)) × (new ≡ was)
