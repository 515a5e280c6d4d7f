-- How long the words of a path are, and how many its origin has: both are bounded by the path as written.
use Rattle.std.proofs.Common.{arith}
use Rattle.std.specs.Prelude.{◌≡◌, ℕ, zero, suc, ◌+◌, ◌*◌, ◌≤◌, List, [], ◌∷◌, ◌++◌, length, replicate, codes}
use Rattle.std.specs.List.{flat_map, AllByRecursion}
use Rattle.std.proofs.lemmas.List.{length-append, length-replicate}
use Rattle.wesl_path.specs.Path.{Origin, absolute, relative, packaged, Path, Sound, led, shown_origin, shown, origin_words, path_words}
use Rattle.wesl_mangle.specs.Texts.{Word, word_some}

-- the bytes of some words, and one more for each
abbrev pub sizes : List (List ℕ) → ℕ
sizes [] = 0
sizes (w ∷ ws) = (length w + 1) + sizes ws

pub sizes_append : (vs ws : List (List ℕ)) → sizes (vs ++ ws) ≡ sizes vs + sizes ws
sizes_append [] ws = omega arith
sizes_append (v ∷ vs) ws = let k = sizes_append vs ws in omega arith

sizes_led : (b : ℕ) (bs : List ℕ) (ws : List (List ℕ)) → sizes ws ≤ length (led (b ∷ bs) ws)
sizes_led b bs [] = omega arith
sizes_led b bs (w ∷ ws) = simp length-append (let k = sizes_led b bs ws in omega arith)

sizes_origin : (o : Origin) → sizes (origin_words o) ≤ length (shown_origin o) + 1
sizes_origin absolute = omega arith
sizes_origin (relative zero) = omega arith
sizes_origin (relative (suc n)) = let k = sizes_led 58 (58 ∷ []) (replicate n (codes "super")) in omega arith
sizes_origin (packaged part more) = simp length-append (let k = sizes_led 47 [] more in omega arith)

-- the words of a path have no more bytes than the path as written
pub sizes_path : (p : Path) → Sound p → sizes (path_words p) ≤ 256
unfolding shown
sizes_path p h =
    let o = sizes_origin p.origin in
    let c = sizes_led 58 (58 ∷ []) p.components in
    let s = simp length-append at h.short in
    rw (sizes_append (origin_words p.origin) p.components) (omega arith)

-- words stay within three times their size when each gets at most four bytes more
pub length_joined : (f : List ℕ → List ℕ) → ((w : List ℕ) → Word w → length (f w) ≤ length w + 4) → (ws : List (List ℕ)) → AllByRecursion Word ws → length (flat_map f ws) ≤ 3 * sizes ws
length_joined f each [] h = omega arith
length_joined f each (w ∷ ws) h =
    simp length-append
    (let a = each w h.0 in
    let s = word_some w h.0 in
    let b = length_joined f each ws h.1 in
    omega arith)

-- the number that a name writes for an origin: how far up, or how many parts
abbrev pub origin_count : Origin → ℕ
origin_count absolute = 0
origin_count (relative n) = n
origin_count (packaged part more) = 1 + length more

length_le_sizes : (ws : List (List ℕ)) → length ws ≤ sizes ws
length_le_sizes [] = omega arith
length_le_sizes (w ∷ ws) = let k = length_le_sizes ws in omega arith

count_le_sizes : (o : Origin) → origin_count o ≤ sizes (origin_words o)
count_le_sizes absolute = omega arith
count_le_sizes (relative zero) = omega arith
count_le_sizes (relative (suc n)) = let k = length_le_sizes (replicate n (codes "super")) in let l = length-replicate n (codes "super") in omega arith
count_le_sizes (packaged part more) = let k = length_le_sizes more in omega arith

pub origin_count_le : (p : Path) → Sound p → origin_count p.origin ≤ 256
origin_count_le p h = omega (arith, sizes_path p h, sizes_append (origin_words p.origin) p.components, count_le_sizes p.origin)
