-- The number and the contents of each fault.
use Rattle.std.specs.Prelude.{ℕ, List, [], ◌∷◌, Some, None, Option}
use Rattle.wesl_table.specs.Places.{part}
use Rattle.wesl_table.specs.declared.place.Place.{Place}
use Rattle.wesl_resolve.specs.declared.fault.ListingFault.{ListingFault}
use Rattle.wesl_resolve.specs.declared.fault.ListingFault.TheVariants.{Broken, Repeated, Conditional}
use Rattle.wesl_resolve.specs.declared.fault.ResolveFault.{ResolveFault}
use Rattle.wesl_resolve.specs.declared.fault.ResolveFault.TheVariants.{Missing, NoRoom, Listing}

-- 1: a line breaks the format; 2: a name is repeated; 3: a line is conditional
abbrev pub listing_number : ListingFault → ℕ
listing_number (Broken m n) = 1
listing_number (Repeated m n x) = 2
listing_number (Conditional m n) = 3

-- the line, from 1
abbrev pub listing_line : ListingFault → ℕ
listing_line (Broken m n) = n
listing_line (Repeated m n x) = n
listing_line (Conditional m n) = n

abbrev pub listing_module : ListingFault → Option Place
listing_module (Broken m n) = m
listing_module (Repeated m n x) = m
listing_module (Conditional m n) = m

abbrev pub listing_names : ListingFault → List Place
listing_names (Broken m n) = []
listing_names (Repeated m n x) = x ∷ []
listing_names (Conditional m n) = []

-- 4: there is no such module; 14: a table is too small; a listing fault keeps its own number
abbrev pub resolve_number : ResolveFault → ℕ
resolve_number (Missing m p) = 4
resolve_number NoRoom = 14
resolve_number (Listing f) = listing_number f

-- 0 where no line is meant
abbrev pub resolve_line : ResolveFault → ℕ
resolve_line (Missing m p) = 0
resolve_line NoRoom = 0
resolve_line (Listing f) = listing_line f

abbrev pub resolve_module : ResolveFault → Option Place
resolve_module (Missing m p) = m
resolve_module NoRoom = None
resolve_module (Listing f) = listing_module f

abbrev pub resolve_names : ResolveFault → List Place
resolve_names (Missing m p) = []
resolve_names NoRoom = []
resolve_names (Listing f) = listing_names f

abbrev pub resolve_path : ResolveFault → Option Place
resolve_path (Missing m p) = p
resolve_path NoRoom = None
resolve_path (Listing f) = None

-- what a fault says: its number, the module it is about or none, the line or 0, its names, and the path that was not found
pub record Contents : Type 0 where
  pub number : ℕ
  pub in_module : Option (List ℕ)
  pub line : ℕ
  pub names : List (List ℕ)
  pub path : Option (List ℕ)

-- the bytes of a fault lie in a cell
abbrev pub read_in : List ℕ → Option Place → Option (List ℕ)
read_in cell None = None
read_in cell (Some p) = Some (part p cell)

abbrev pub all_in : List ℕ → List Place → List (List ℕ)
all_in cell [] = []
all_in cell (p ∷ ps) = part p cell ∷ all_in cell ps

abbrev pub contents : List ℕ → ResolveFault → Contents
contents cell f =
    record {
      number = resolve_number f;
      in_module = read_in cell (resolve_module f);
      line = resolve_line f;
      names = all_in cell (resolve_names f);
      path = read_in cell (resolve_path f);
    }
