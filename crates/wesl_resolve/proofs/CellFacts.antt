-- The cell after a path was not found.
use Rattle.std.proofs.Common.{◌≡◌, ℕ, ◌+◌, ◌≤◌, List, [], ◌++◌, length, take, drop, Some, None, refl, ap, ◌∙◌}
use Rattle.std.proofs.lemmas.List.{take_at, drop_at, length-take-le}
use Rattle.wesl_table.specs.Places.{part}
use Rattle.wesl_resolve.specs.Cells.{written_at, path_place, Missed}
use Rattle.wesl_resolve.specs.declared.cell.FaultCell.{FaultCell}
use Rattle.wesl_resolve.specs.declared.fault.ResolveFault.TheVariants.{Missing}

-- what was written can be read at its place
pub read_back : (p cell : List ℕ) → 255 ≤ length cell → part (path_place p) (written_at 255 p cell) ≡ p
unfolding part
read_back p cell h =
    ap (λ x. take (length p) x) (drop_at (take 255 cell) (p ++ drop (255 + length p) cell) 255 (length-take-le 255 cell h))
    ∙ take_at p (drop (255 + length p) cell) (length p) refl

pub missed : (p : List ℕ) (was new : FaultCell) → 255 ≤ length was.bytes → new.bytes ≡ written_at 255 p was.bytes → Missed p was new (Missing None (Some (path_place p)))
missed p was new h e =
    let q : part (path_place p) new.bytes ≡ p = ap (part (path_place p)) e ∙ read_back p was.bytes h in
    record { fault = refl; cell = e; says = ap (λ x. record { number = 4; in_module = None; line = 0; names = []; path = Some x }) q }
