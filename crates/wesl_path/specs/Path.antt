-- Module paths: an origin and components, how they are printed, and how they are joined.
use Rattle.std.specs.Prelude.{◌≡◌, ℕ, zero, suc, ◌-◌, ◌≤◌, Bool, true, cond, ◌&&◌, List, [], ◌∷◌, ◌++◌, length, take, drop, replicate, codes, count_by, ◌==◌, nat_eq, nat_le}
use Rattle.std.specs.List.{flat_map, AllByRecursion}
use Rattle.std.specs.Str.{bytes_eq}
use Rattle.wesl_path.specs.Name.{plain, Plain}

-- where a path starts: at the package's root, `n` modules up, or at a package of one or more parts
pub data Origin : Type 0 where
  absolute : Origin
  relative : ℕ → Origin
  packaged : (part : List ℕ) → (more : List (List ℕ)) → Origin

pub record Path : Type 0 where
  pub origin : Origin
  pub components : List (List ℕ)

-- each word with its lead before it
abbrev pub led : List ℕ → List (List ℕ) → List ℕ
led lead ws = flat_map (λ w. lead ++ w) ws

-- `package`, `self`, `super` once or more parted by `::`, or names parted by `/`
abbrev pub shown_origin : Origin → List ℕ
shown_origin absolute = codes "package"
shown_origin (relative zero) = codes "self"
shown_origin (relative (suc n)) = codes "super" ++ led (codes "::") (replicate n (codes "super"))
shown_origin (packaged part more) = part ++ led (codes "/") more

-- a path as it is written: its origin, and each component after `::`
unfoldable pub shown : Path → List ℕ
shown p = shown_origin p.origin ++ led (codes "::") p.components

abbrev pub PlainOrigin : Origin → Type 0
PlainOrigin absolute = Unit {0}
PlainOrigin (relative n) = Unit {0}
PlainOrigin (packaged part more) = Plain part × AllByRecursion Plain more

-- a path that there is: all names plain, at most 255 bytes as written
pub record Sound (p : Path) : Type 0 where
  pub origin : PlainOrigin p.origin
  pub components : AllByRecursion Plain p.components
  pub short : length (shown p) ≤ 255

-- bytes that are a path
pub record IsPath (bs : List ℕ) : Type 0 where
  pub path : Path
  pub sound : Sound path
  pub printed : shown path ≡ bs

-- how many of the last components `super` takes away: all, if there are fewer
abbrev pub without_last_names : ℕ → List (List ℕ) → List (List ℕ)
without_last_names n cs = take (length cs - n) cs

-- a package named from inside another is one part further down
abbrev pub within : Origin → List ℕ → List (List ℕ) → Origin
within absolute part more = packaged part more
within (relative n) part more = packaged part more
within (packaged part₀ more₀) part more = packaged part₀ (more₀ ++ part ∷ more)

-- Q read from the module P
abbrev pub joined_from : Path → Origin → List (List ℕ) → Path
joined_from p absolute cs = record { origin = p.origin; components = cs }
joined_from p (relative n) cs = record { origin = p.origin; components = without_last_names n p.components ++ cs }
joined_from p (packaged part more) cs = record { origin = within p.origin part more; components = cs }

abbrev pub join_path : Path → Path → Path
join_path p q = joined_from p q.origin q.components

-- components appended
abbrev pub extended : Path → List (List ℕ) → Path
extended p cs = record { origin = p.origin; components = p.components ++ cs }

-- the words of an origin as they are written, without what parts them
abbrev pub origin_words : Origin → List (List ℕ)
origin_words absolute = codes "package" ∷ []
origin_words (relative zero) = codes "self" ∷ []
origin_words (relative (suc n)) = codes "super" ∷ replicate n (codes "super")
origin_words (packaged part more) = part ∷ more

-- all words of a path
abbrev pub path_words : Path → List (List ℕ)
path_words p = origin_words p.origin ++ p.components

-- The way back from bytes to the path.

-- the bytes that part words, `:` and `/`
abbrev pub parts_words : ℕ → Bool
parts_words b = cond (b == 58) true (b == 47)

-- a byte more at the front of the first piece
abbrev pub onto_first : ℕ → List (List ℕ) → List (List ℕ)
onto_first b [] = (b ∷ []) ∷ []
onto_first b (w ∷ ws) = (b ∷ w) ∷ ws

abbrev pub pieces : List ℕ → List (List ℕ)
pieces [] = [] ∷ []
pieces (b ∷ bs) = cond (parts_words b) ([] ∷ pieces bs) (onto_first b (pieces bs))

abbrev pub without_empty : List (List ℕ) → List (List ℕ)
without_empty [] = []
without_empty ([] ∷ ws) = without_empty ws
without_empty ((b ∷ w) ∷ ws) = (b ∷ w) ∷ without_empty ws

-- the words of a text, in order
unfoldable pub words : List ℕ → List (List ℕ)
words bs = without_empty (pieces bs)

unfoldable pub slashes : List ℕ → ℕ
slashes bs = count_by (λ b. nat_eq b 47) bs

-- so many times `super` has gone before
abbrev pub after_super : ℕ → List (List ℕ) → Path
after_super n [] = record { origin = relative n; components = [] }
after_super n (w ∷ ws) = cond (bytes_eq w (codes "super")) (after_super (suc n) ws) (record { origin = relative n; components = w ∷ ws })

-- the path of which these are the words, with so many slashes
abbrev pub of_words : ℕ → List (List ℕ) → Path
of_words n [] = record { origin = absolute; components = [] }
of_words n (w ∷ ws) =
    cond (bytes_eq w (codes "package")) (record { origin = absolute; components = ws })
    (cond (bytes_eq w (codes "self")) (record { origin = relative 0; components = ws })
    (cond (bytes_eq w (codes "super")) (after_super 1 ws)
    (record { origin = packaged w (take n ws); components = drop n ws })))

unfoldable pub path_of : List ℕ → Path
path_of bs = of_words (slashes bs) (words bs)

-- The same as tests, for the types that keep a path.

abbrev pub all_plain : List (List ℕ) → Bool
all_plain [] = true
all_plain (w ∷ ws) = plain w && all_plain ws

abbrev pub plain_origin : Origin → Bool
plain_origin absolute = true
plain_origin (relative n) = true
plain_origin (packaged part more) = plain part && all_plain more

unfoldable pub is_path_text : List ℕ → Bool
is_path_text bs =
    bytes_eq (shown (path_of bs)) bs
    && (plain_origin (path_of bs).origin && (all_plain (path_of bs).components && nat_le (length bs) 255))
