-- Bytes held in place.
use Rattle.std.specs.Prelude.{◌≡◌, ℕ, ◌<◌, ◌≤◌, List, ◌++◌, length, take, Ok, Err, Result}
use Rattle.wesl_path.specs.declared.inline.InlineBytes.{InlineBytes}
use Rattle.wesl_path.specs.declared.inline.NoRoom.{NoRoom}

-- the bytes that are held; those past the length are none of them
abbrev pub held : {N : ℕ} → InlineBytes N → List ℕ
held x = take x.len x.cells

-- `push`: the further bytes stand at the end, or they and those before are more than `most`, and all stays
abbrev pub Extended : {N : ℕ} → ℕ → List ℕ → InlineBytes N → InlineBytes N → Result (Unit {0}) NoRoom → Type 0
Extended most what was new (Ok _) = (held new ≡ held was ++ what) × (length (held new) ≤ most)
Extended most what was new (Err _) = (most < length (held was ++ what)) × (new ≡ was)
