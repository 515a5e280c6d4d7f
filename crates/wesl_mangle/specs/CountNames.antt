-- A name by lengths is an identifier of the output.
use Rattle.std.proofs.Common.{arith, ap, ◌∙◌}
use Rattle.std.specs.Prelude.{◌≡◌, ℕ, ◌+◌, ◌≤◌, true, List, ◌∷◌, ◌++◌, length, decimal, refl}
use Rattle.std.specs.List.{flat_map}
use Rattle.std.proofs.lemmas.List.{length-append}
use Rattle.std.proofs.lemmas.Fmt.{length-decimal-le}
use Rattle.wesl_path.specs.Name.{digit, letter, word_byte, word_bytes, starts_well_text}
use Rattle.wesl_path.specs.Path.{Origin, absolute, relative, packaged, Path, Sound, origin_words}
use Rattle.wesl_mangle.specs.Counted.{counted, counted_origin, package_parts}
use Rattle.wesl_mangle.specs.Laws.{LengthsNamed}
use Rattle.wesl_mangle.specs.Texts.{Word, word_from_plain, words_from_plain, word_countable, word_bytes_append, word_bytes_joined}
use Rattle.wesl_mangle.specs.DecimalText.{decimal_bytes, ended_decimal_fits}
use Rattle.wesl_mangle.specs.PathSizes.{sizes, sizes_append, sizes_path, length_joined, origin_count, origin_count_le}
use Rattle.wesl_mangle.specs.Counts.{lengths_as_words, words_plain}

counted_bytes : (w : List ℕ) → Word w → word_bytes (counted w) ≡ true
unfolding counted word_byte letter digit
counted_bytes w h = word_bytes_append (decimal (length w)) (95 ∷ w) (decimal_bytes (length w) (word_countable w h)) h.bytes

-- two digits and `_`, since a word has at most 64 bytes
pub counted_length : (w : List ℕ) → Word w → length (counted w) ≤ length w + 3
unfolding counted
counted_length w h =
    let s = h.short in
    let d = length-decimal-le 2 (length w) (omega arith) (omega arith) (omega arith) in
    simp length-append (omega arith)

origin_fits : (o : Origin) → origin_count o ≤ 256 → (word_bytes (counted_origin o) ≡ true) × (length (counted_origin o) ≤ 5)
unfolding word_byte letter digit
origin_fits absolute c = (refl, omega arith)
origin_fits (relative n) c =
    let d = ended_decimal_fits n (omega arith) in
    (d.0, omega (arith, d.1))
origin_fits (packaged part more) c =
    let d = ended_decimal_fits (1 + length more) (omega arith) in
    (d.0, omega (arith, d.1))

origin_starts : (o : Origin) (rest : List ℕ) → starts_well_text (counted_origin o ++ rest) ≡ true
unfolding digit
origin_starts absolute rest = refl
origin_starts (relative n) rest = refl
origin_starts (packaged part more) rest = refl

-- the parts of a package are words of the origin
parts_sizes : (o : Origin) → sizes (package_parts o) ≤ sizes (origin_words o)
parts_sizes absolute = omega arith
parts_sizes (relative n) = omega arith
parts_sizes (packaged part more) = omega arith

words_sizes : (p : Path) → Sound p → sizes (package_parts p.origin ++ p.components) ≤ 256
words_sizes p h =
    omega (arith, sizes_path p h, sizes_append (package_parts p.origin) p.components, sizes_append (origin_words p.origin) p.components, parts_sizes p.origin)

pub lengths_named : LengthsNamed
lengths_named p i h k =
    let ws = package_parts p.origin ++ p.components in
    let a = words_from_plain ws (words_plain p h) in
    let w = word_from_plain i k in
    let o = origin_fits p.origin (origin_count_le p h) in
    let f = lengths_as_words p i in
    record {
      starts = ap starts_well_text f ∙ origin_starts p.origin (flat_map counted ws ++ counted i);
      bytes = ap word_bytes f ∙ word_bytes_append (counted_origin p.origin) _ o.0 (word_bytes_append (flat_map counted ws) (counted i) (word_bytes_joined counted counted_bytes ws a) (counted_bytes i w));
      short =
          (let n = simp length-append at (ap length f) in
          let m = length_joined counted (λ v x. let c = counted_length v x in omega arith) ws a in
          let t = words_sizes p h in
          let j = counted_length i w in
          let r = w.short in
          let q = o.1 in
          omega arith);
    }
