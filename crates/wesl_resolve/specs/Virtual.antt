-- Modules in memory.
use Rattle.std.specs.Prelude.{◌≡◌, ℕ, ◌<◌, ◌≤◌, min, true, ◌⊎◌, List, map, length, is_some, None, Ok, Err, Result}
use Rattle.wesl_path.specs.Texts.{path_text}
use Rattle.wesl_table.specs.Tables.{records, room, SameCells}
use Rattle.wesl_table.specs.declared.table.Table.{Table}
use Rattle.wesl_resolve.specs.Sources.{Texts, Source, text_at, with_source, changed}
use Rattle.wesl_resolve.specs.declared.fault.ResolveFault.{ResolveFault}
use Rattle.wesl_resolve.specs.declared.fault.ResolveFault.TheVariants.{Missing, NoRoom, Listing}
use Rattle.wesl_resolve.specs.declared.virtual_resolver.VirtualModule.{VirtualModule}
use Rattle.wesl_resolve.specs.declared.virtual_resolver.VirtualResolver.{VirtualResolver}

abbrev pub source_of : VirtualModule → Source
source_of m = record { path = path_text m.path; text = m.text.now }

-- the modules of a table, in the order in which their paths were added
abbrev pub sources_of : Table VirtualModule → List Source
sources_of t = map source_of (records t)

-- how many there may be: 64, or as many as there are cells, if those are fewer
abbrev pub most : Table VirtualModule → ℕ
most t = min 64 (room t)

-- the path is held then, with this text; or it was not held, there is no room for it, and all stays
abbrev pub Added : List ℕ → List ℕ → Table VirtualModule → Table VirtualModule → Result (Unit {0}) ResolveFault → Type 0
Added p t was new (Ok _) = ((is_some (text_at (sources_of was) p) ≡ true) ⊎ (length (sources_of was) < most was)) × (sources_of new ≡ with_source p t (sources_of was)) × SameCells was new
Added p t was new (Err NoRoom) = (text_at (sources_of was) p ≡ None) × (most was ≤ length (sources_of was)) × (new ≡ was)
Added p t was new (Err (Missing m q)) = ⊥
Added p t was new (Err (Listing f)) = ⊥

-- the modules held
abbrev pub held : VirtualResolver → List Source
held v = sources_of v.modules

-- what that means: the map before with one path changed, or the map before
abbrev pub Remaps : List ℕ → List ℕ → Texts → Texts → Result (Unit {0}) ResolveFault → Type 0
Remaps p t was new (Ok _) = (q : List ℕ) → new q ≡ changed p t was q
Remaps p t was new (Err f) = (q : List ℕ) → new q ≡ was q
