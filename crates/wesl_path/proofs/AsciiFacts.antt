-- Names, components and paths are ASCII, so each is text.
use Rattle.std.proofs.Common.{◌≡◌, ℕ, zero, suc, ◌<◌, true, List, [], ◌∷◌, ◌++◌, replicate, codes, IsUtf8, subst, arith, lit<}
use Rattle.std.specs.List.{AllByRecursion}
use Rattle.std.proofs.ByRecursion.{All-append, All-weaker, IsAscii-from_all}
use Rattle.std.proofs.lemmas.Str.{IsUtf8-from_ascii}
use Rattle.std.proofs.lemmas.Bool.{and_parts}
use Rattle.std.proofs.lemmas.Bool.Decides.{nat_tests}
use Rattle.wesl_path.specs.Name.{digit, letter, word_byte, word_bytes, plain, Plain}
use Rattle.wesl_path.specs.Path.{Origin, absolute, relative, packaged, led, shown_origin, shown, PlainOrigin, path_of, is_path_text, words}
use Rattle.wesl_path.specs.Components.{are_components_text}
use Rattle.wesl_path.proofs.WordFacts.{plain_word_bytes}
use Rattle.wesl_path.proofs.PathFacts.{path_from_test}
use Rattle.wesl_path.proofs.ComponentFacts.{components_from_test}

abbrev Ascii : List ℕ → Type 0
Ascii bs = AllByRecursion (λ b. b < 128) bs

byte_ascii : (b : ℕ) → word_byte b ≡ true → b < 128
unfolding word_byte letter digit
byte_ascii b e = grind (arith, nat_tests)

bytes_ascii : (w : List ℕ) → word_bytes w ≡ true → Ascii w
bytes_ascii [] e = tt
bytes_ascii (b ∷ w) e = let p = and_parts (word_byte b) (word_bytes w) e in (byte_ascii b p.0, bytes_ascii w p.1)

plain_ascii : (w : List ℕ) → Plain w → Ascii w
plain_ascii w h = bytes_ascii w (plain_word_bytes w h)

led_ascii : (lead : List ℕ) (ws : List (List ℕ)) → Ascii lead → AllByRecursion Ascii ws → Ascii (led lead ws)
led_ascii lead [] l h = tt
led_ascii lead (w ∷ ws) l h = All-append _ (lead ++ w) (led lead ws) (All-append _ lead w l h.0) (led_ascii lead ws l h.1)

super_ascii : Ascii (codes "super")
super_ascii = (lit< tt, (lit< tt, (lit< tt, (lit< tt, (lit< tt, tt)))))

supers_ascii : (n : ℕ) → AllByRecursion Ascii (replicate n (codes "super"))
supers_ascii zero = tt
supers_ascii (suc n) = (super_ascii, supers_ascii n)

lead_ascii : Ascii (codes "::")
lead_ascii = (lit< tt, (lit< tt, tt))

origin_ascii : (o : Origin) → PlainOrigin o → Ascii (shown_origin o)
origin_ascii absolute h = (lit< tt, (lit< tt, (lit< tt, (lit< tt, (lit< tt, (lit< tt, (lit< tt, tt)))))))
origin_ascii (relative zero) h = (lit< tt, (lit< tt, (lit< tt, (lit< tt, tt))))
origin_ascii (relative (suc n)) h = All-append _ (codes "super") _ super_ascii (led_ascii (codes "::") _ lead_ascii (supers_ascii n))
origin_ascii (packaged part more) h =
    All-append _ part (led (codes "/") more) (plain_ascii part h.0) (led_ascii (codes "/") more (lit< tt, tt) (All-weaker Plain Ascii plain_ascii more h.1))

pub word_bytes_utf8 : (bs : List ℕ) → word_bytes bs ≡ true → IsUtf8 bs
word_bytes_utf8 bs e = IsUtf8-from_ascii bs (IsAscii-from_all bs (bytes_ascii bs e))

pub name_utf8 : (bs : List ℕ) → plain bs ≡ true → IsUtf8 bs
name_utf8 bs h = word_bytes_utf8 bs (plain_word_bytes bs h)

pub path_utf8 : (bs : List ℕ) → is_path_text bs ≡ true → IsUtf8 bs
unfolding shown
path_utf8 bs h =
    let t = path_from_test bs h in
    let p = path_of bs in
    let a : Ascii (shown p) =
    All-append _ (shown_origin p.origin) _ (origin_ascii p.origin t.0.origin)
    (led_ascii (codes "::") p.components lead_ascii (All-weaker Plain Ascii plain_ascii p.components t.0.components)) in
    IsUtf8-from_ascii bs (IsAscii-from_all bs (subst Ascii t.1 a))

pub components_utf8 : (bs : List ℕ) → are_components_text bs ≡ true → IsUtf8 bs
components_utf8 bs h =
    let t = components_from_test bs h in
    let a : Ascii (led (codes "::") (words bs)) = led_ascii (codes "::") (words bs) lead_ascii (All-weaker Plain Ascii plain_ascii (words bs) t.0) in
    let b : Ascii (codes "::" ++ bs) = subst Ascii t.1 a in
    IsUtf8-from_ascii bs (IsAscii-from_all bs b.1.1)
