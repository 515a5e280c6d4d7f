-- The mangling by lengths as words, and the way back from it.
use Rattle.std.proofs.Common.{arith, sym, ap, ◌∙◌}
use Rattle.std.specs.Prelude.{◌≡◌, ℕ, ◌+◌, ◌<◌, ◌≤◌, List, [], ◌∷◌, ◌++◌, length, decimal, refl}
use Rattle.std.specs.List.{flat_map, AllByRecursion}
use Rattle.std.proofs.lemmas.List.{append_assoc, append-nil}
use Rattle.std.proofs.ByRecursion.{All-append}
use Rattle.std.proofs.lemmas.Bool.{cond-false}
use Rattle.std.proofs.lemmas.Fmt.{decimal_nonempty}
use Rattle.wesl_path.specs.Name.{Plain}
use Rattle.wesl_path.specs.Path.{Origin, absolute, relative, packaged, Path, PlainOrigin, Sound}
use Rattle.wesl_mangle.specs.Mangle.{ended_item, in_package}
use Rattle.wesl_mangle.specs.Counted.{counted, counted_origin, package_parts, by_lengths, counting, inside, uncounted, counted_up, counted_parts, from_lengths}
use Rattle.wesl_mangle.specs.Laws.{LengthsGoBack, LengthsApart}
use Rattle.wesl_mangle.specs.Texts.{Word, word_from_plain, words_from_plain, word_countable}
use Rattle.wesl_mangle.specs.DecimalText.{Digit, digit_no_underscore, decimal_digits, TakesDigits, takes_decimal}
use Rattle.wesl_mangle.specs.PathSizes.{origin_count, origin_count_le}
use Rattle.wesl_mangle.specs.Items.{ends_item, takes_parts, apart_from_back}

pub lengths_as_words : (p : Path) (i : List ℕ) → by_lengths p i ≡ counted_origin p.origin ++ (flat_map counted (package_parts p.origin ++ p.components) ++ counted i)
unfolding by_lengths
lengths_as_words p i = refl

-- the same with what ends each word, which is nothing
ended_by_nothing : (ws : List (List ℕ)) → flat_map (λ w. counted w ++ []) ws ≡ flat_map counted ws
ended_by_nothing [] = refl
ended_by_nothing (w ∷ ws) = rw (append-nil (counted w), ended_by_nothing ws) refl

pub lengths_in_words : (p : Path) (i : List ℕ) → by_lengths p i ≡ counted_origin p.origin ++ (flat_map (λ w. counted w ++ []) (package_parts p.origin ++ p.components) ++ counted i)
lengths_in_words p i = lengths_as_words p i ∙ ap (λ ws. counted_origin p.origin ++ (ws ++ counted i)) (sym (ended_by_nothing (package_parts p.origin ++ p.components)))

parts_plain : (o : Origin) → PlainOrigin o → AllByRecursion Plain (package_parts o)
parts_plain absolute h = tt
parts_plain (relative n) h = tt
parts_plain (packaged part more) h = h

pub words_plain : (p : Path) → Sound p → AllByRecursion Plain (package_parts p.origin ++ p.components)
words_plain p h = All-append Plain (package_parts p.origin) p.components (parts_plain p.origin h.origin) h.components

-- Reading words back.

counting_digits : TakesDigits (λ n bs. uncounted (counting n) bs)
counting_digits n b bs h = cond-false _ _ _ (digit_no_underscore b h)

-- as many bytes as were counted go into the word
fills : (u w rest : List ℕ) → uncounted (inside w (length u)) (u ++ rest) ≡ uncounted (inside (w ++ u) 0) rest
fills [] w rest = ap (λ v. uncounted (inside v 0) rest) (sym (append-nil w))
fills (b ∷ u) w rest = fills u (w ++ b ∷ []) rest ∙ ap (λ v. uncounted (inside v 0) rest) (append_assoc w (b ∷ []) u)

reads_counted : (w rest : List ℕ) → Word w → uncounted (counting 0) (counted w ++ rest) ≡ uncounted (inside w 0) rest
unfolding counted
reads_counted w rest h =
    ap (uncounted (counting 0)) (append_assoc (decimal (length w)) (95 ∷ w) rest)
    ∙ takes_decimal (λ n bs. uncounted (counting n) bs) counting_digits (length w) (95 ∷ (w ++ rest)) (word_countable w h)
    ∙ fills w [] rest

-- a digit ends the word before it
digit_ends : (w ds rest : List ℕ) → AllByRecursion Digit ds → 0 < length ds → uncounted (inside w 0) (ds ++ rest) ≡ w ∷ uncounted (counting 0) (ds ++ rest)
digit_ends w [] rest h k = absurd (omega arith)
digit_ends w (d ∷ ds) rest h k = ap (λ ws. w ∷ ws) (sym (counting_digits 0 d (ds ++ rest) h.0))

count_ends : (w u rest : List ℕ) → Word u → uncounted (inside w 0) (counted u ++ rest) ≡ w ∷ uncounted (counting 0) (counted u ++ rest)
unfolding counted
count_ends w u rest h =
    let c = word_countable u h in
    rw (append_assoc (decimal (length u)) (95 ∷ u) rest)
    (digit_ends w (decimal (length u)) (95 ∷ (u ++ rest)) (decimal_digits (length u) c) (decimal_nonempty (length u) c))

words_end : (w : List ℕ) (ws : List (List ℕ)) (i : List ℕ) → AllByRecursion Word ws → Word i → uncounted (inside w 0) (flat_map counted ws ++ counted i) ≡ w ∷ uncounted (counting 0) (flat_map counted ws ++ counted i)
words_end w [] i h k = rw (sym (append-nil (counted i))) (count_ends w i [] k)
words_end w (v ∷ ws) i h k = rw (append_assoc (counted v) (flat_map counted ws) (counted i)) (count_ends w v (flat_map counted ws ++ counted i) h.0)

reads_words : (ws : List (List ℕ)) (i : List ℕ) → AllByRecursion Word ws → Word i → uncounted (counting 0) (flat_map counted ws ++ counted i) ≡ ws ++ i ∷ []
reads_words [] i h k = ap (uncounted (counting 0)) (sym (append-nil (counted i))) ∙ reads_counted i [] k
reads_words (w ∷ ws) i h k =
    ap (uncounted (counting 0)) (append_assoc (counted w) (flat_map counted ws) (counted i))
    ∙ reads_counted w (flat_map counted ws ++ counted i) h.0
    ∙ words_end w ws i h.1 k
    ∙ ap (λ vs. w ∷ vs) (reads_words ws i h.1 k)

-- The item of the words.

up_digits : TakesDigits counted_up
up_digits n b bs h = cond-false _ _ _ (digit_no_underscore b h)

parts_digits : TakesDigits counted_parts
parts_digits n b bs h = cond-false _ _ _ (digit_no_underscore b h)

origin_back : (o : Origin) (cs : List (List ℕ)) (i : List ℕ) → origin_count o ≤ 256 → AllByRecursion Word (package_parts o ++ cs) → Word i →
    from_lengths (counted_origin o ++ (flat_map counted (package_parts o ++ cs) ++ counted i)) ≡ record { path = record { origin = o; components = cs }; name = i }
unfolding from_lengths
origin_back absolute cs i n h k = ap (ended_item absolute []) (reads_words cs i h k) ∙ ends_item absolute [] cs i
origin_back (relative m) cs i n h k =
    ap (counted_up 0) (append_assoc (decimal m) (95 ∷ []) (flat_map counted cs ++ counted i))
    ∙ takes_decimal counted_up up_digits m (95 ∷ (flat_map counted cs ++ counted i)) (omega arith)
    ∙ ap (ended_item (relative m) []) (reads_words cs i h k)
    ∙ ends_item (relative m) [] cs i
origin_back (packaged part more) cs i n h k =
    let ws : List (List ℕ) = (part ∷ more) ++ cs in
    ap (counted_parts 0) (append_assoc (decimal (1 + length more)) (95 ∷ []) (flat_map counted ws ++ counted i))
    ∙ takes_decimal counted_parts parts_digits (1 + length more) (95 ∷ (flat_map counted ws ++ counted i)) (omega arith)
    ∙ ap (in_package (1 + length more)) (reads_words ws i h k)
    ∙ takes_parts part more cs i

pub lengths_back : LengthsGoBack
lengths_back p i h k =
    ap from_lengths (lengths_as_words p i)
    ∙ origin_back p.origin p.components i (origin_count_le p h) (words_from_plain _ (words_plain p h)) (word_from_plain i k)

pub lengths_apart : LengthsApart
lengths_apart = apart_from_back by_lengths from_lengths lengths_back
