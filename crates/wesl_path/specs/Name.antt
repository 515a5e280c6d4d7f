-- Plain names: what may stand as a component, a package part or an item.
use Rattle.std.specs.Prelude.{◌≡◌, ℕ, Bool, true, false, not, ◌&&◌, ◌||◌, List, [], ◌∷◌, length, codes, ◌==◌, nat_le}
use Rattle.std.specs.Str.{bytes_eq}

-- `0` to `9`
unfoldable pub digit : ℕ → Bool
digit b = nat_le 48 b && nat_le b 57

-- `A` to `Z` and `a` to `z`
unfoldable pub letter : ℕ → Bool
letter b = (nat_le 65 b && nat_le b 90) || (nat_le 97 b && nat_le b 122)

-- what a name is made of: letters, digits and underscores
unfoldable pub word_byte : ℕ → Bool
word_byte b = letter b || (digit b || b == 95)

abbrev pub word_bytes : List ℕ → Bool
word_bytes [] = true
word_bytes (b ∷ bs) = word_byte b && word_bytes bs

-- some byte comes first, and it is no digit
abbrev pub starts_well_text : List ℕ → Bool
starts_well_text [] = false
starts_well_text (b ∷ bs) = not (digit b)

-- the four words that paths and manglings use themselves
unfoldable pub reserved : List ℕ → Bool
reserved bs =
    bytes_eq bs (codes "package") || (bytes_eq bs (codes "self") || (bytes_eq bs (codes "super") || bytes_eq bs (codes "import")))

-- a plain name: 1 to 64 letters, digits and underscores, no digit first, none of the reserved words
unfoldable pub plain : List ℕ → Bool
plain bs = starts_well_text bs && (nat_le (length bs) 64 && (word_bytes bs && not (reserved bs)))

abbrev pub Plain : List ℕ → Type 0
Plain bs = plain bs ≡ true
