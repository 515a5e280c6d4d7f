-- The declaration that the words of a path and an item's name make.
use Rattle.std.proofs.Common.{arith, sym, ap, ◌∙◌}
use Rattle.std.specs.Prelude.{◌≡◌, ℕ, ◌+◌, ◌-◌, List, [], ◌∷◌, ◌++◌, length, refl}
use Rattle.std.proofs.lemmas.List.{append_assoc, append-nil, take_at, drop_at}
use Rattle.wesl_path.specs.Path.{Origin, packaged}
use Rattle.wesl_mangle.specs.Mangle.{Item, ended_item, in_package}
use Rattle.wesl_mangle.specs.Laws.{Mangling, GoesBack, Apart}

-- all words but the last are components
pub ends_item : (o : Origin) (cs ws : List (List ℕ)) (i : List ℕ) → ended_item o cs (ws ++ i ∷ []) ≡ record { path = record { origin = o; components = cs ++ ws }; name = i }
ends_item o cs [] i = rw (append-nil cs) refl
ends_item o cs (w ∷ []) i = refl
ends_item o cs (w ∷ (v ∷ ws)) i = ends_item o (cs ++ w ∷ []) (v ∷ ws) i ∙ rw (append_assoc cs (w ∷ []) (v ∷ ws)) refl

-- as many words as are counted are parts of the package
pub takes_parts : (part : List ℕ) (more cs : List (List ℕ)) (i : List ℕ) → in_package (1 + length more) (((part ∷ more) ++ cs) ++ i ∷ []) ≡ record { path = record { origin = packaged part more; components = cs }; name = i }
takes_parts part more cs i =
    let n : length more ≡ 1 + length more - 1 = omega arith in
    rw (append_assoc more cs (i ∷ []), take_at more (cs ++ i ∷ []) (1 + length more - 1) n, drop_at more (cs ++ i ∷ []) (1 + length more - 1) n)
    (ends_item (packaged part more) [] cs i)

-- names that tell their declarations are different for different ones
pub apart_from_back : (mangled : Mangling) (read : List ℕ → Item) → GoesBack mangled read → Apart mangled
apart_from_back mangled read back p q i j s t k l e =
    let same = sym (back p i s k) ∙ ap read e ∙ back q j t l in
    (ap (λ (x : Item). x.path) same, ap (λ (x : Item). x.name) same)
