-- The lines of a text.
use Rattle.std.specs.Prelude.{ℕ, cond, List, [], ◌∷◌, ◌==◌}
use Rattle.wesl_path.specs.Path.{onto_first}
use Rattle.wesl_resolve.specs.declared.lines.Lines.{Lines}

-- each line with the 0x0A that ends it; the last may have none
abbrev pub lines : List ℕ → List (List ℕ)
lines [] = []
lines (b ∷ bs) = cond (b == 10) ((b ∷ []) ∷ lines bs) (onto_first b (lines bs))

-- what stands up to the first 0x0A and with it, or all
abbrev pub first_line : List ℕ → List ℕ
first_line [] = []
first_line (b ∷ bs) = b ∷ cond (b == 10) [] (first_line bs)

-- the lines that are yet to come
abbrev pub lines_left : Lines → List (List ℕ)
lines_left s = lines s.rest.now
