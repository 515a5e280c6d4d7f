-- A path's words, as the manglings write them.
use Rattle.std.proofs.Common.{◌≡◌, ℕ, ◌+◌, ◌≤◌, ◌⊎◌, List, [], ◌++◌, length, take, drop, refl, sym, ap, ◌∙◌, ⊎_elim, arith}
use Rattle.std.proofs.lemmas.List.{take_all, length-drop}
use Rattle.wesl_path.specs.Heads.{kind_of, HeadOf}
use Rattle.wesl_path.specs.Path.{Origin, absolute, relative, packaged, words, origin_words, path_words}
use Rattle.wesl_path.specs.Texts.{path_text, path_value}
use Rattle.wesl_path.specs.declared.module_path.ModulePath.{ModulePath}
use Rattle.wesl_path.specs.declared.origin.Head.{Head}
use Rattle.wesl_path.specs.declared.origin.PathOrigin.TheVariants.{Absolute, Relative, Package}
use Rattle.wesl_path.proofs.PathFacts.{words_of_path, words_components}
use Rattle.wesl_mangle.specs.Counted.{package_parts}
use Rattle.wesl_mangle.proofs.Kept.{path_valid, path_sound}

pub all_words : (path : ModulePath) → words (path_text path) ≡ path_words (path_value path)
all_words path = words_of_path (path_text path) (path_valid path)

-- the words of a package's path are its parts and components
pub package_words : (path : ModulePath) (n : ℕ) → kind_of (path_value path).origin ≡ Package n
    → words (path_text path) ≡ package_parts (path_value path).origin ++ (path_value path).components
package_words path n e = all_words path ∙ ap (λ ws. ws ++ (path_value path).components) (by (path_value path).origin e)
  where
    by : (o : Origin) → kind_of o ≡ Package n → origin_words o ≡ package_parts o
    by absolute e = absurd (cc)
    by (relative m) e = absurd (cc)
    by (packaged part more) e = refl

-- those after any other origin are the components
pub other_words : (path : ModulePath) (h : Head) → HeadOf (path_text path) h → (h.origin ≡ Absolute) ⊎ ((n : ℕ) × (h.origin ≡ Relative n))
    → words (drop h.end (path_text path)) ≡ package_parts (path_value path).origin ++ (path_value path).components
other_words path h head e =
    ap words head.back ∙ words_components (path_value path).components (path_sound path).components
    ∙ ap (λ ws. ws ++ (path_value path).components) (sym (by (path_value path).origin head.kind))
  where
    by : (o : Origin) → h.origin ≡ kind_of o → package_parts o ≡ []
    by absolute k = refl
    by (relative m) k = refl
    by (packaged part more) k = ⊎_elim (λ a. absurd (cc)) (λ r. absurd (cc)) e

-- the same of the path's bytes, cut after the origin
pub words_after : (path : ModulePath) (h : Head) (text : List ℕ) (n : ℕ) → text ≡ path_text path → length text ≤ h.end + n → HeadOf (path_text path) h → (h.origin ≡ Absolute) ⊎ ((n : ℕ) × (h.origin ≡ Relative n))
    → words (take n (drop h.end text)) ≡ package_parts (path_value path).origin ++ (path_value path).components
words_after path h text n e within head kind =
    ap words (take_all _ _ (let k = length-drop h.end text in omega (arith, k)) ∙ ap (drop h.end) e) ∙ other_words path h head kind
