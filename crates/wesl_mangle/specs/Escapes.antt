-- The escape mangling as words, and the way back from it.
use Rattle.std.proofs.Common.{arith, sym, ap, ◌∙◌, ⊎_elim, add-zero, zero-add, one-add}
use Rattle.std.specs.Prelude.{◌≡◌, ℕ, zero, suc, ◌+◌, ◌^◌, ◌<◌, ◌≤◌, true, false, cond, List, [], ◌∷◌, ◌++◌, map, length, replicate, codes, decimal, ◌==◌, nat_eq, refl}
use Rattle.std.specs.List.{flat_map, AllByRecursion}
use Rattle.std.proofs.lemmas.List.{append_assoc, append-nil, map-append}
use Rattle.std.proofs.lemmas.List.Sums.{sum_by-cons, count_by-le-length}
use Rattle.std.proofs.lemmas.Bool.{true≢false, not-true, cases_Bool, cond-true, cond-false, eqb-true}
use Rattle.std.proofs.lemmas.Fmt.{decimal_nonempty}
use Rattle.std.proofs.lemmas.Grind.{flat_map-append}
use Rattle.wesl_path.specs.Name.{digit, starts_well_text, Plain}
use Rattle.wesl_path.specs.Path.{Origin, absolute, relative, packaged, Path, Sound, led, origin_words, path_words}
use Rattle.wesl_mangle.specs.Mangle.{ended_item, in_package}
use Rattle.wesl_mangle.specs.Escape.{underscores, escaped, package_lead, escape}
use Rattle.wesl_mangle.specs.Escape.{fresh, counting, inside, unescaped, numbered, after_super, after_import, item_of, unescape}
use Rattle.wesl_mangle.specs.Laws.{EscapeGoesBack, EscapeApart, EscapeAsWords}
use Rattle.wesl_mangle.specs.Texts.{Word, plain_parts, word_from_plain, path_words_words, word_some}
use Rattle.wesl_mangle.specs.DecimalText.{Digit, digit_no_underscore, decimal_digits, numbered_decimal, TakesDigits, takes_decimal}
use Rattle.wesl_mangle.specs.PathSizes.{origin_count_le}
use Rattle.wesl_mangle.specs.Items.{ends_item, takes_parts, apart_from_back}

-- a word and what ends it
abbrev pub ended : List ℕ → List ℕ
ended w = escaped w ++ (95 ∷ [])

-- the words that origins are written with have no underscores
escaped_package : escaped (codes "package") ≡ codes "package"
unfolding escaped underscores
escaped_package = refl

escaped_self : escaped (codes "self") ≡ codes "self"
unfolding escaped underscores
escaped_self = refl

escaped_super : escaped (codes "super") ≡ codes "super"
unfolding escaped underscores
escaped_super = refl

-- `_` before each word and at the end, or after each word and at the start
led_ended : (ws : List (List ℕ)) (x : List ℕ) → led (codes "_") (map escaped ws) ++ (95 ∷ x) ≡ 95 ∷ (flat_map ended ws ++ x)
led_ended [] x = refl
led_ended (w ∷ ws) x = ap (λ r. 95 ∷ r) (append_assoc (escaped w) _ _ ∙ ap (λ r. escaped w ++ r) (led_ended ws x) ∙ simp append_assoc)

led_append : (lead : List ℕ) (vs ws : List (List ℕ)) → led lead (vs ++ ws) ≡ led lead vs ++ led lead ws
led_append lead vs ws = flat_map-append (λ w. lead ++ w) vs ws

led_both : (vs ws : List (List ℕ)) (x : List ℕ) → led (codes "_") (map escaped vs) ++ (led (codes "_") (map escaped ws) ++ (95 ∷ x)) ≡ 95 ∷ (flat_map ended (vs ++ ws) ++ x)
led_both vs ws x = sym (append_assoc (led (codes "_") (map escaped vs)) _ _) ∙ ap (λ r. r ++ (95 ∷ x)) (sym (led_append (codes "_") (map escaped vs) (map escaped ws)) ∙ ap (led (codes "_")) (sym (map-append escaped vs ws))) ∙ led_ended (vs ++ ws) x

map_supers : (n : ℕ) → map escaped (replicate n (codes "super")) ≡ replicate n (codes "super")
map_supers zero = refl
map_supers (suc n) = let e = escaped_super in let r = map_supers n in cc

origin_words_escaped : (o : Origin) (cs : List (List ℕ)) (i : List ℕ) → escape (record { origin = o; components = cs }) i ≡ package_lead o ++ (flat_map ended (path_words (record { origin = o; components = cs })) ++ escaped i)
unfolding escape
origin_words_escaped absolute cs i = rw (escaped_package, led_ended) refl
origin_words_escaped (relative zero) cs i = rw (escaped_self, led_ended) refl
origin_words_escaped (relative (suc n)) cs i =
    let rest = led (codes "_") (map escaped cs) ++ (95 ∷ escaped i) in
    ap (λ r. codes "super" ++ (led (codes "_") r ++ rest)) (sym (map_supers n))
    ∙ ap (λ r. codes "super" ++ r) (led_both (replicate n (codes "super")) cs (escaped i))
    ∙ rw escaped_super refl
origin_words_escaped (packaged part []) cs i = ap (λ r. escaped part ++ r) (led_ended cs (escaped i)) ∙ simp append_assoc
origin_words_escaped (packaged part (next ∷ more)) cs i =
    let count = decimal (2 + length more) in
    ap (λ r. codes "import_" ++ r)
    (append_assoc count _ _ ∙ ap (λ r. count ++ r) (led_both (part ∷ (next ∷ more)) cs (escaped i)) ∙ sym (append_assoc count (codes "_") _))

pub escape_as_words : EscapeAsWords
escape_as_words p i = origin_words_escaped p.origin p.components i

-- Reading words back.

underscores_letter : (b : ℕ) (u : List ℕ) → (b == 95) ≡ false → underscores (b ∷ u) ≡ underscores u
unfolding underscores
underscores_letter b u e = sum_by-cons (λ x. cond (x == 95) 1 0) b u ∙ rw e (zero-add _)

underscores_mark : (b : ℕ) (u : List ℕ) → (b == 95) ≡ true → underscores (b ∷ u) ≡ suc (underscores u)
unfolding underscores
underscores_mark b u e = sum_by-cons (λ x. cond (x == 95) 1 0) b u ∙ rw e (one-add _)

underscores_none : (b : ℕ) (u : List ℕ) → underscores (b ∷ u) ≡ 0 → ((b == 95) ≡ false) × (underscores u ≡ 0)
underscores_none b u h =
    ⊎_elim (λ e. absurd (let k = underscores_mark b u e in omega arith)) (λ e. (e, sym (underscores_letter b u e) ∙ h)) (cases_Bool (b == 95))

pub underscores_le : (w : List ℕ) → underscores w ≤ length w
unfolding underscores
underscores_le w = count_by-le-length (λ b. nat_eq b 95) w

-- `decimal` can write the number of a word's underscores
pub underscores_countable : (w : List ℕ) → Word w → underscores w < 2 ^ 64
underscores_countable w h = let s = h.short in omega (arith, underscores_le w)

-- what ends the word that is being read, with these words after it
abbrev Ends : List ℕ → List (List ℕ) → Type 0
Ends t ws = (v : List ℕ) → unescaped (inside v 0) t ≡ v ∷ ws

inside_letter : (v : List ℕ) (n b : ℕ) (bs : List ℕ) → (b == 95) ≡ false → unescaped (inside v n) (b ∷ bs) ≡ unescaped (inside (v ++ b ∷ []) n) bs
inside_letter v zero b bs e = rw e refl
inside_letter v (suc n) b bs e = rw e refl

inside_mark : (v : List ℕ) (n b : ℕ) (bs : List ℕ) → (b == 95) ≡ true → unescaped (inside v (suc n)) (b ∷ bs) ≡ unescaped (inside (v ++ b ∷ []) n) bs
inside_mark v n b bs e = rw e refl

-- a word is read to its end when its underscores are known
inside_read : (v u t : List ℕ) (ws : List (List ℕ)) → Ends t ws → unescaped (inside v (underscores u)) (u ++ t) ≡ (v ++ u) ∷ ws
unfolding underscores
inside_read v [] t ws h = h v ∙ ap (λ r. r ∷ ws) (sym (append-nil v))
inside_read v (b ∷ u) t ws h =
    let next = inside_read (v ++ b ∷ []) u t ws h ∙ ap (λ r. r ∷ ws) (append_assoc v (b ∷ []) u) in
    ⊎_elim
    (λ e. ap (λ n. unescaped (inside v n) (b ∷ (u ++ t))) (underscores_mark b u e) ∙ inside_mark v (underscores u) b (u ++ t) e ∙ next)
    (λ e. ap (λ n. unescaped (inside v n) (b ∷ (u ++ t))) (underscores_letter b u e) ∙ inside_letter v (underscores u) b (u ++ t) e ∙ next)
    (cases_Bool (b == 95))

-- a word with no underscore is read as it is
bare_read : (w t : List ℕ) (ws : List (List ℕ)) → 0 < length w → underscores w ≡ 0 → Ends t ws → unescaped fresh (w ++ t) ≡ w ∷ ws
bare_read [] t ws l n h = absurd (omega arith)
bare_read (b ∷ u) t ws l n h =
    let k = underscores_none b u n in
    rw k.0 (ap (λ m. unescaped (inside (b ∷ []) m) (u ++ t)) (sym k.1) ∙ inside_read (b ∷ []) u t ws h)

counting_digits : TakesDigits (λ n bs. unescaped (counting n) bs)
counting_digits n b bs h = cond-true _ _ _ h

-- a word after the number of its underscores
counted_read : (w t : List ℕ) (ws : List (List ℕ)) → starts_well_text w ≡ true → Ends t ws → unescaped (counting (underscores w)) (w ++ t) ≡ w ∷ ws
counted_read [] t ws l h = absurd (true≢false (sym l))
counted_read (b ∷ u) t ws l h =
    let first = not-true (digit b) l in
    ⊎_elim
    (λ e. cond-false _ _ _ first ∙ cond-true _ _ _ e ∙ ap at (omega (arith, underscores_mark b u e)) ∙ inside_read (b ∷ []) u t ws h)
    (λ e. cond-false _ _ _ first ∙ cond-false _ _ _ e ∙ ap at (underscores_letter b u e) ∙ inside_read (b ∷ []) u t ws h)
    (cases_Bool (b == 95))
  where
    at : ℕ → List (List ℕ)
    at n = unescaped (inside (b ∷ []) n) (u ++ t)

-- a word led by the number of its underscores
led_read : (w t : List ℕ) (ws : List (List ℕ)) → Word w → Ends t ws → unescaped (counting 0) ((decimal (underscores w) ++ w) ++ t) ≡ w ∷ ws
led_read w t ws k h =
    ap (unescaped (counting 0)) (append_assoc (decimal (underscores w)) w t)
    ∙ takes_decimal (λ n bs. unescaped (counting n) bs) counting_digits (underscores w) (w ++ t) (underscores_countable w k)
    ∙ counted_read w t ws k.starts h

-- an escaped word is read as the word
word_read : (w t : List ℕ) (ws : List (List ℕ)) → Word w → Ends t ws → unescaped fresh (escaped w ++ t) ≡ w ∷ ws
unfolding escaped
word_read w t ws k h =
    ⊎_elim
    (λ e. rw e (bare_read w t ws (word_some w k) (eqb-true _ _ e) h))
    (λ e. rw e (led_read w t ws k h))
    (cases_Bool (underscores w == 0))

-- all words, with the item's name at the end
words_read : (ws : List (List ℕ)) (i : List ℕ) → AllByRecursion Word ws → Word i → unescaped fresh (flat_map ended ws ++ escaped i) ≡ ws ++ i ∷ []
words_read [] i h k = ap (unescaped fresh) (sym (append-nil (escaped i))) ∙ word_read i [] [] k (λ v. refl)
words_read (w ∷ ws) i h k =
    let rest = flat_map ended ws ++ escaped i in
    ap (unescaped fresh) (append_assoc (ended w) (flat_map ended ws) (escaped i) ∙ append_assoc (escaped w) (95 ∷ []) rest)
    ∙ word_read w (95 ∷ rest) (unescaped fresh rest) h.0 (λ v. refl)
    ∙ ap (λ r. w ∷ r) (words_read ws i h.1 k)

no_underscore_in_digits : (ds : List ℕ) → AllByRecursion Digit ds → underscores ds ≡ 0
unfolding underscores
no_underscore_in_digits [] h = refl
no_underscore_in_digits (d ∷ ds) h = underscores_letter d ds (digit_no_underscore d h.0) ∙ no_underscore_in_digits ds h.1

-- the words before those of a package of several parts
lead_read : (n : ℕ) (rest : List ℕ) → n < 2 ^ 64 → unescaped fresh ((codes "import_" ++ (decimal n ++ codes "_")) ++ rest) ≡ codes "import" ∷ (decimal n ∷ unescaped fresh rest)
lead_read n rest s =
    let count = bare_read (decimal n) (95 ∷ rest) (unescaped fresh rest) (decimal_nonempty n s) (no_underscore_in_digits (decimal n) (decimal_digits n s)) (λ v. refl) in
    ap (λ r. codes "import" ∷ unescaped fresh r) (append_assoc (decimal n) (95 ∷ []) rest) ∙ ap (λ r. codes "import" ∷ r) count

-- The item of the words.

supers_counted : (m n : ℕ) (ws : List (List ℕ)) → after_super m (replicate n (codes "super") ++ ws) ≡ after_super (m + n) ws
supers_counted m zero ws = rw (add-zero m) refl
supers_counted m (suc n) ws = supers_counted (suc m) n ws ∙ ap (λ k. after_super k ws) (omega arith)

supers_end : (m : ℕ) (cs : List (List ℕ)) (i : List ℕ) → AllByRecursion Plain cs → Plain i → after_super m (cs ++ i ∷ []) ≡ ended_item (relative m) [] (cs ++ i ∷ [])
supers_end m [] i h k = cond-false _ _ _ (plain_parts i k).no_super
supers_end m (c ∷ cs) i h k = cond-false _ _ _ (plain_parts c h.0).no_super

-- a part of a package begins no other origin
package_read : (part : List ℕ) (ws : List (List ℕ)) → Plain part → item_of (part ∷ ws) ≡ in_package 1 (part ∷ ws)
package_read part ws h =
    let p = plain_parts part h in
    cond-false _ _ _ p.no_package ∙ cond-false _ _ _ p.no_self ∙ cond-false _ _ _ p.no_super ∙ cond-false _ _ _ p.no_import

path_read : (p : Path) (i : List ℕ) → Sound p → Plain i → unescaped fresh (flat_map ended (path_words p) ++ escaped i) ≡ path_words p ++ i ∷ []
path_read p i s k = words_read (path_words p) i (path_words_words p s) (word_from_plain i k)

back_from_words : (o : Origin) (cs : List (List ℕ)) (i : List ℕ) → Sound (record { origin = o; components = cs }) → Plain i → item_of (unescaped fresh (package_lead o ++ (flat_map ended (origin_words o ++ cs) ++ escaped i))) ≡ record { path = record { origin = o; components = cs }; name = i }
back_from_words absolute cs i s k = ap item_of (path_read _ i s k) ∙ ends_item absolute [] cs i
back_from_words (relative zero) cs i s k = ap item_of (path_read _ i s k) ∙ ends_item (relative 0) [] cs i
back_from_words (relative (suc n)) cs i s k =
    ap item_of (path_read _ i s k)
    ∙ ap (after_super 1) (append_assoc (replicate n (codes "super")) cs (i ∷ []))
    ∙ supers_counted 1 n (cs ++ i ∷ [])
    ∙ ap (λ m. after_super m (cs ++ i ∷ [])) (one-add n)
    ∙ supers_end (suc n) cs i s.components k
    ∙ ends_item (relative (suc n)) [] cs i
back_from_words (packaged part []) cs i s k =
    ap item_of (path_read _ i s k) ∙ package_read part (cs ++ i ∷ []) s.origin.0 ∙ takes_parts part [] cs i
back_from_words (packaged part (next ∷ more)) cs i s k =
    let n = 2 + length more in
    let ws = ((part ∷ (next ∷ more)) ++ cs) ++ i ∷ [] in
    let small : n < 2 ^ 64 = omega (arith, origin_count_le _ s) in
    let count : numbered 0 (decimal n) ≡ 1 + length (next ∷ more) = omega (arith, numbered_decimal n small) in
    ap item_of (lead_read n (flat_map ended (part ∷ ((next ∷ more) ++ cs)) ++ escaped i) small)
    ∙ ap (λ r. after_import (decimal n ∷ r)) (path_read _ i s k)
    ∙ ap (λ m. in_package m ws) count
    ∙ takes_parts part (next ∷ more) cs i

pub escape_back : EscapeGoesBack
unfolding unescape
escape_back p i s k = ap (λ r. item_of (unescaped fresh r)) (escape_as_words p i) ∙ back_from_words p.origin p.components i s k

pub escape_apart : EscapeApart
escape_apart = apart_from_back escape unescape escape_back
