-- The cell that the bytes of a fault lie in.
use Rattle.std.specs.Prelude.{◌≡◌, ℕ, ◌+◌, List, [], ◌++◌, length, take, drop, Some, None, Ok, Err, Result}
use Rattle.std.specs.Borrow.{Bor}
use Rattle.wesl_table.specs.declared.place.Place.{Place}
use Rattle.wesl_resolve.specs.Sources.{Texts}
use Rattle.wesl_resolve.specs.Faults.{Contents, contents}
use Rattle.wesl_resolve.specs.declared.cell.FaultCell.{FaultCell}
use Rattle.wesl_resolve.specs.declared.fault.ResolveFault.{ResolveFault}
use Rattle.wesl_resolve.specs.declared.fault.ResolveFault.TheVariants.{Missing}

-- bytes written into the cell from a place on, and the rest as it was
abbrev pub written_at : ℕ → List ℕ → List ℕ → List ℕ
written_at at bytes cell = take at cell ++ (bytes ++ drop (at + length bytes) cell)

-- a path that was not found lies from 255 on
abbrev pub path_place : List ℕ → Place
path_place p = record { start = 255; len = length p }

-- what the fault of a path that was not found says, where no module holds the reference
abbrev pub not_found : List ℕ → Contents
not_found p = record { number = 4; in_module = None; line = 0; names = []; path = Some p }

-- that fault, and the cell after it
pub record Missed (p : List ℕ) (was new : FaultCell) (f : ResolveFault) : Type 0 where
  pub fault : f ≡ Missing None (Some (path_place p))
  pub cell : new.bytes ≡ written_at 255 p was.bytes
  pub says : contents new.bytes f ≡ not_found p

-- asking for a text that is wanted: the text, and the cell stays; or the fault that there is none
abbrev pub Sourced : Texts → List ℕ → FaultCell → FaultCell → Result (Bor (List ℕ)) ResolveFault → Type 0
Sourced texts p was new (Ok t) = (texts p ≡ Some t.now) × (new ≡ was)
Sourced texts p was new (Err f) = (texts p ≡ None) × Missed p was new f
