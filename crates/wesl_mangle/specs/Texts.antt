-- Plain names, the words of paths, and their bytes.
use Rattle.std.proofs.Common.{arith, sym}
use Rattle.std.specs.Prelude.{◌≡◌, ℕ, zero, suc, ◌^◌, ◌<◌, ◌≤◌, true, false, List, [], ◌∷◌, ◌++◌, length, replicate, codes, refl}
use Rattle.std.specs.List.{flat_map, AllByRecursion}
use Rattle.std.specs.Str.{bytes_eq}
use Rattle.std.proofs.ByRecursion.{All-append, All-weaker}
use Rattle.std.proofs.lemmas.Bool.{true≢false, and_parts, and_from}
use Rattle.wesl_path.specs.Name.{digit, letter, word_byte, word_bytes, starts_well_text, Plain}
use Rattle.wesl_path.proofs.WordFacts.{plain_starts, plain_short, plain_word_bytes}
use Rattle.wesl_path.proofs.PathFacts.{plain_is_free}
use Rattle.wesl_path.specs.Path.{Origin, absolute, relative, packaged, Path, PlainOrigin, Sound, origin_words, path_words}

-- what all words of a path are, the reserved ones too
pub record Word (w : List ℕ) : Type 0 where
  pub starts : starts_well_text w ≡ true
  pub short : length w ≤ 64
  pub bytes : word_bytes w ≡ true

-- what a plain name is, part by part
pub record PlainParts (w : List ℕ) : Type 0 where
  pub word : Word w
  pub no_package : bytes_eq w (codes "package") ≡ false
  pub no_self : bytes_eq w (codes "self") ≡ false
  pub no_super : bytes_eq w (codes "super") ≡ false
  pub no_import : bytes_eq w (codes "import") ≡ false

pub plain_parts : (w : List ℕ) → Plain w → PlainParts w
plain_parts w h =
    let f = plain_is_free w h in
    record {
      word = record { starts = plain_starts w h; short = plain_short w h; bytes = plain_word_bytes w h };
      no_package = f.package';
      no_self = f.self';
      no_super = f.super';
      no_import = f.import';
    }

pub word_from_plain : (w : List ℕ) → Plain w → Word w
word_from_plain w h = (plain_parts w h).word

pub words_from_plain : (ws : List (List ℕ)) → AllByRecursion Plain ws → AllByRecursion Word ws
words_from_plain ws h = All-weaker Plain Word word_from_plain ws h

super_word : Word (codes "super")
unfolding word_byte letter digit
super_word = record { starts = refl; short = omega arith; bytes = refl }

supers_words : (n : ℕ) → AllByRecursion Word (replicate n (codes "super"))
supers_words zero = tt
supers_words (suc n) = (super_word, supers_words n)

origin_words_words : (o : Origin) → PlainOrigin o → AllByRecursion Word (origin_words o)
unfolding word_byte letter digit
origin_words_words absolute h = (record { starts = refl; short = omega arith; bytes = refl }, tt)
origin_words_words (relative zero) h = (record { starts = refl; short = omega arith; bytes = refl }, tt)
origin_words_words (relative (suc n)) h = (super_word, supers_words n)
origin_words_words (packaged part more) h = (word_from_plain part h.0, words_from_plain more h.1)

pub path_words_words : (p : Path) → Sound p → AllByRecursion Word (path_words p)
path_words_words p h = All-append Word (origin_words p.origin) p.components (origin_words_words p.origin h.origin) (words_from_plain p.components h.components)

pub word_some : (w : List ℕ) → Word w → 0 < length w
word_some [] h = absurd (true≢false (sym h.starts))
word_some (b ∷ w) h = omega arith

-- `decimal` can write a word's length
pub word_countable : (w : List ℕ) → Word w → length w < 2 ^ 64
word_countable w h = let s = h.short in omega arith

pub starts_well_append : (xs ys : List ℕ) → starts_well_text xs ≡ true → starts_well_text (xs ++ ys) ≡ true
starts_well_append [] ys h = absurd (true≢false (sym h))
starts_well_append (x ∷ xs) ys h = h

pub word_bytes_append : (xs ys : List ℕ) → word_bytes xs ≡ true → word_bytes ys ≡ true → word_bytes (xs ++ ys) ≡ true
word_bytes_append [] ys h k = k
word_bytes_append (x ∷ xs) ys h k =
    let a = and_parts _ _ h in
    and_from _ _ a.0 (word_bytes_append xs ys a.1 k)

pub word_bytes_joined : (f : List ℕ → List ℕ) → ((w : List ℕ) → Word w → word_bytes (f w) ≡ true) → (ws : List (List ℕ)) → AllByRecursion Word ws → word_bytes (flat_map f ws) ≡ true
word_bytes_joined f each [] h = refl
word_bytes_joined f each (w ∷ ws) h = word_bytes_append (f w) (flat_map f ws) (each w h.0) (word_bytes_joined f each ws h.1)
