-- What the manglings keep, for every sound path and every plain name.
use Rattle.std.specs.Prelude.{◌≡◌, ℕ, List, [], ◌∷◌, ◌++◌}
use Rattle.std.specs.List.{flat_map}
use Rattle.wesl_path.specs.Name.{Plain}
use Rattle.wesl_path.specs.Path.{Path, Sound, path_words}
use Rattle.wesl_mangle.specs.Mangle.{Item, Identifier}
use Rattle.wesl_mangle.specs.Escape.{escape, escaped, package_lead, unescape}
use Rattle.wesl_mangle.specs.Counted.{by_lengths, from_lengths}

-- a name for an item of the module at a path
abbrev pub Mangling : Type 0
Mangling = Path → List ℕ → List ℕ

-- a name tells its declaration
abbrev pub GoesBack : Mangling → (List ℕ → Item) → Type 0
GoesBack mangled read = (p : Path) (i : List ℕ) → Sound p → Plain i → read (mangled p i) ≡ record { path = p; name = i }

-- two declarations never get one name
abbrev pub Apart : Mangling → Type 0
Apart mangled = (p q : Path) (i j : List ℕ) → Sound p → Sound q → Plain i → Plain j → mangled p i ≡ mangled q j → (p ≡ q) × (i ≡ j)

-- a name may stand in the output
abbrev pub Named : Mangling → Type 0
Named mangled = (p : Path) (i : List ℕ) → Sound p → Plain i → Identifier (mangled p i)

abbrev pub EscapeGoesBack : Type 0
EscapeGoesBack = GoesBack escape unescape

abbrev pub EscapeApart : Type 0
EscapeApart = Apart escape

abbrev pub EscapeNamed : Type 0
EscapeNamed = Named escape

-- an escaped name is its words, each ended by `_` but the last
abbrev pub EscapeAsWords : Type 0
EscapeAsWords = (p : Path) (i : List ℕ) → escape p i ≡ package_lead p.origin ++ (flat_map (λ w. escaped w ++ (95 ∷ [])) (path_words p) ++ escaped i)

abbrev pub LengthsGoBack : Type 0
LengthsGoBack = GoesBack by_lengths from_lengths

abbrev pub LengthsApart : Type 0
LengthsApart = Apart by_lengths

abbrev pub LengthsNamed : Type 0
LengthsNamed = Named by_lengths
