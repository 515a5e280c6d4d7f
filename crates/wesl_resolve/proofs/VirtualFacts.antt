-- A table of modules: what a lookup by a path finds, and what a further module leaves.
use Rattle.std.proofs.Common.{◌≡◌, ℕ, ◌<◌, ◌≤◌, List, map, length, set, is_some, Some, None, Ok, Err, Option, sym, refl, ap, ◌∙◌, inl, inr, arith}
use Rattle.std.specs.List.{HoldsAt}
use Rattle.std.proofs.lemmas.List.{length-map}
use Rattle.wesl_path.specs.Texts.{path_text}
use Rattle.wesl_table.specs.Keys.{First}
use Rattle.wesl_table.specs.Tables.{records, SameCells, Pushed}
use Rattle.wesl_table.specs.declared.fault.TableFault.{TableFault}
use Rattle.wesl_table.specs.declared.fault.TableFault.TheVariants.{Full}
use Rattle.wesl_table.specs.declared.table.Table.{Table}
use Rattle.wesl_resolve.specs.Sources.{text_at}
use Rattle.wesl_resolve.specs.Virtual.{source_of, sources_of, Added, Remaps}
use Rattle.wesl_resolve.specs.declared.fault.ResolveFault.TheVariants.{NoRoom}
use Rattle.wesl_resolve.specs.declared.virtual_resolver.VirtualModule.{VirtualModule}
use Rattle.wesl_resolve.proofs.SourceFacts.{text_found, text_absent, replaced, appended, remapped}

-- what looking for a path answered
abbrev pub Looked : Table VirtualModule → List ℕ → Option ℕ → Type 0
Looked t p r = First (λ x. path_text x.path ≡ p) (records t) 0 (length (records t)) r

module _ (t : Table VirtualModule) where
  -- the text of the module that is found
  pub found_text : (p : List ℕ) (i : ℕ) (m : VirtualModule) → Looked t p (Some i) → HoldsAt (λ y. y ≡ m) (records t) i → Some m.text.now ≡ text_at (sources_of t) p
  found_text p i m f a = let e = text_found source_of p (records t) i m f.1 f.2 f.3 in sym (rw (a m) at e)

  -- no text, where none is found
  pub none_held : (p : List ℕ) → Looked t p None → text_at (sources_of t) p ≡ None
  none_held p f = text_absent source_of p (records t) f

  -- 64 modules, and none at the path: no room
  pub full : (p x : List ℕ) → Looked t p None → 64 ≤ length (records t) → Added p x t t (Err NoRoom)
  full p x f h = (none_held p f, omega (arith, length-map (records t) source_of), refl)

  module _ (m : VirtualModule) (new : Table VirtualModule) where
    -- a module in the place of the one at its path
    pub in_place : (i : ℕ) → Looked t (path_text m.path) (Some i) → records new ≡ set (records t) i m → SameCells t new → Added (path_text m.path) m.text.now t new (Ok tt)
    in_place i f e s =
        (inl (ap is_some (text_found source_of _ (records t) i m f.1 f.2 f.3)), ap (map source_of) e ∙ replaced source_of _ _ m refl (records t) i f.1 f.2 f.3, s)

    -- a module at the end, where none has its path
    pub at_end : Looked t (path_text m.path) None → length (records t) < 64 → Pushed m t new (Ok tt) → Added (path_text m.path) m.text.now t new (Ok tt)
    at_end f h e =
        (inr (omega (arith, e.0, length-map (records t) source_of)), ap (map source_of) e.1 ∙ appended source_of _ _ m refl (records t) f, e.2)

    -- every cell is taken, and none holds the path: no room
    pub refused : (f : TableFault) → Looked t (path_text m.path) None → Pushed m t new (Err f) → Added (path_text m.path) m.text.now t new (Err NoRoom)
    refused Full f e = (none_held _ f, omega (arith, e.0, length-map (records t) source_of), e.1)

-- a module that is held then changes the texts at its path alone
pub remaps : (p x : List ℕ) (was new : Table VirtualModule) → Added p x was new (Ok tt) → Remaps p x (text_at (sources_of was)) (text_at (sources_of new)) (Ok tt)
remaps p x was new a q = ap (λ ss. text_at ss q) a.1 ∙ remapped p x (sources_of was) q
