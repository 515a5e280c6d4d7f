-- A place in a text.
use Rattle.std.specs.Prelude.{ℕ, List, take, drop}
use Rattle.wesl_table.specs.declared.place.Place.{Place}

-- the bytes at a place: as many as it has of those that the text has there
unfoldable pub part : Place → List ℕ → List ℕ
part p text = take p.len (drop p.start text)
