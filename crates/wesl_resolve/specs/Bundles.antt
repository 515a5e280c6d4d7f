-- Bundles: one text with the texts of several modules, each led by a line `M`, tab, path.
use Rattle.std.specs.Prelude.{◌≡◌, ℕ, ◌+◌, ◌-◌, ◌<◌, ◌≤◌, Bool, cond, ◌&&◌, ◌⊎◌, List, [], ◌∷◌, ◌++◌, length, take, drop, Some, None, Ok, Err, codes, Option, Result, slice_index_or}
use Rattle.std.specs.Str.{bytes_eq}
use Rattle.wesl_path.specs.Path.{IsPath, is_path_text}
use Rattle.wesl_resolve.specs.Sources.{Source}
use Rattle.wesl_resolve.specs.Lines.{lines, first_line}
use Rattle.wesl_resolve.specs.declared.bundle.Bundle.{Bundle}
use Rattle.wesl_resolve.specs.declared.bundle.BundleModule.{BundleModule}
use Rattle.wesl_resolve.specs.declared.bundle.Modules.{Modules}
use Rattle.wesl_resolve.specs.declared.fault.ListingFault.{ListingFault}
use Rattle.wesl_resolve.specs.declared.fault.ListingFault.TheVariants.{Broken}

-- the line that leads the module at a path: `M`, a tab, the path and 0x0A
abbrev pub lead : List ℕ → List ℕ
lead p = codes "M\t" ++ (p ++ 10 ∷ [])

-- a line that leads a module
pub record Leads (line : List ℕ) : Type 0 where
  pub path : List ℕ
  pub valid : IsPath path
  pub written : line ≡ lead path

-- what stands between the tab and the end of such a line
abbrev pub led_path : List ℕ → List ℕ
led_path line = take (length line - 3) (drop 2 line)

-- the same as a test
unfoldable pub leads : List ℕ → Bool
leads line = bytes_eq line (lead (led_path line)) && is_path_text (led_path line)

-- the lines up to the next that leads a module, put together
abbrev pub body : List (List ℕ) → List ℕ
body [] = []
body (l ∷ ls) = cond (leads l) [] (l ++ body ls)

-- the modules of a text, in their order: each is led by its line, and its text is the lines up to the next
abbrev pub led : List (List ℕ) → List Source
led [] = []
led (l ∷ ls) = cond (leads l) (record { path = led_path l; text = body ls } ∷ led ls) (led ls)

abbrev pub modules : List ℕ → List Source
modules text = led (lines text)

-- a line that begins with `M`
abbrev pub Marked : List ℕ → Type 0
Marked [] = ⊥
Marked (b ∷ bs) = b ≡ 77

-- the line at an index, from 0, may not stand there: it leads no module, and it begins with `M` or stands before the first that leads one
abbrev pub Breaks : List (List ℕ) → ℕ → Type 0
Breaks ls i = (i < length ls) × (Leads (slice_index_or ls i []) → ⊥) × (Marked (slice_index_or ls i []) ⊎ ((k : ℕ) → k < i → Leads (slice_index_or ls k []) → ⊥))

-- a text without such a line, and one with its first at an index
abbrev pub Unbroken : List ℕ → Type 0
Unbroken text = (i : ℕ) → Breaks (lines text) i → ⊥

pub record BrokenAt (text : List ℕ) (i : ℕ) : Type 0 where
  pub breaks : Breaks (lines text) i
  pub before : (k : ℕ) → k < i → Breaks (lines text) k → ⊥
  pub within : i < length text

-- reading a bundle: it is the text, and no line breaks it; or the first that does, by its number from 1, and no module
abbrev pub Made : List ℕ → Result Bundle ListingFault → Type 0
Made text (Ok b) = (b.text.now ≡ text) × Unbroken text
Made text (Err f) = (i : ℕ) × BrokenAt text i × (f ≡ Broken None (i + 1))

-- a line that begins with `M` and leads no module, which may stand nowhere
abbrev pub Strays : List ℕ → Type 0
Strays line = Marked line × (Leads line → ⊥)

-- the lines before the next that leads a module, or before the end: what begins a text, and what is left of it
pub record IsBody (text front : List ℕ) : Type 0 where
  pub rest : List ℕ
  pub splits : text ≡ front ++ rest
  pub holds : front ≡ body (lines text)
  pub passes : modules text ≡ modules rest
  pub stops : 0 < length rest → Leads (first_line rest)

-- the first module from a place in the text on, and where the next is sought; or there is none
abbrev pub NextModule : List ℕ → ℕ → Option BundleModule → Type 0
NextModule text at None = modules (drop at text) ≡ []
NextModule text at (Some m) = (modules (drop at text) ≡ record { path = m.path.now; text = m.text.now } ∷ modules (drop m.end text)) × (at < m.end) × (m.end ≤ length text)

-- one module further: the next one, and the place behind it; or none, and the place stays
abbrev pub Advances : Modules → Option BundleModule → Modules → Type 0
Advances s None t = NextModule s.text.now s.at None × (t ≡ s)
Advances s (Some m) t = NextModule s.text.now s.at (Some m) × (t ≡ record { text = s.text; at = m.end })
