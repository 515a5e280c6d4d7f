-- What a table holds, and what its calls leave.
use Rattle.std.specs.Prelude.{◌≡◌, ℕ, ◌<◌, ◌≤◌, List, [], ◌∷◌, ◌++◌, length, take, Ok, Err, Result}
use Rattle.wesl_table.specs.declared.fault.TableFault.{TableFault}
use Rattle.wesl_table.specs.declared.fault.TableFault.TheVariants.{Full}
use Rattle.wesl_table.specs.declared.table.Table.{Table}

-- the counted records, in the order in which they were added; cells past the count are none of them
abbrev pub records : {T : Type 0} → Table T → List T
records t = take t.count t.cells.now

-- how many records the cells can hold
abbrev pub room : {T : Type 0} → Table T → ℕ
room t = length t.cells.now

-- a table over the same cells
pub record SameCells {T : Type 0} (was new : Table T) : Type 0 where
  pub cells : new.cells.ghost_name ≡ was.cells.ghost_name
  pub size : room new ≡ room was

-- `push`: one record more at the end, or a full table that stays as it was
abbrev pub Pushed : {T : Type 0} → T → Table T → Table T → Result (Unit {0}) TableFault → Type 0
Pushed x was new (Ok _) = (length (records was) < room was) × (records new ≡ records was ++ x ∷ []) × SameCells was new
Pushed x was new (Err Full) = (room was ≤ length (records was)) × (new ≡ was)
