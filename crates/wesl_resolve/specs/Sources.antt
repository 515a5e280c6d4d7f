-- Modules by their paths: what a Resolver means.
use Rattle.std.specs.Prelude.{ℕ, cond, List, [], ◌∷◌, Some, None, Option}
use Rattle.std.specs.Str.{bytes_eq}

-- a partial map from paths to texts; a path is told by its bytes
abbrev pub Texts : Type 0
Texts = List ℕ → Option (List ℕ)

-- a module's path and its text
pub record Source : Type 0 where
  pub path : List ℕ
  pub text : List ℕ

-- the text of the first module at a path
abbrev pub text_at : List Source → Texts
text_at [] p = None
text_at (s ∷ ss) p = cond (bytes_eq s.path p) (Some s.text) (text_at ss p)

-- a module more: in the place of the first at its path, or at the end
abbrev pub with_source : List ℕ → List ℕ → List Source → List Source
with_source p t [] = record { path = p; text = t } ∷ []
with_source p t (s ∷ ss) = cond (bytes_eq s.path p) (record { path = p; text = t } ∷ ss) (s ∷ with_source p t ss)

-- a map with one path changed
abbrev pub changed : List ℕ → List ℕ → Texts → Texts
changed p t m q = cond (bytes_eq p q) (Some t) (m q)
