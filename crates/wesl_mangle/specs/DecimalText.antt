-- Digits and decimals, read from the left.
use Rattle.std.proofs.Common.{arith, ap, ◌∙◌, rules}
use Rattle.std.specs.Prelude.{◌≡◌, ℕ, ◌^◌, ◌<◌, ◌≤◌, true, false, List, [], ◌∷◌, ◌++◌, length, decimal, ◌==◌, refl}
use Rattle.std.specs.List.{AllByRecursion}
use Rattle.std.proofs.lemmas.List.{length-append}
use Rattle.std.proofs.lemmas.Bool.{and_from, or_left, or_right}
use Rattle.std.proofs.lemmas.Str.Parse.{IsNumeralModel, numerals_by_fold}
use Rattle.std.proofs.lemmas.Fmt.{digits_decimal, digits_value-decimal, length-decimal-le}
use Rattle.std.proofs.lemmas.Bool.Decides.{nat_tests}
use Rattle.wesl_path.specs.Name.{digit, letter, word_byte, word_bytes}
use Rattle.wesl_mangle.specs.Mangle.{shifted}
use Rattle.wesl_mangle.specs.Escape.{numbered}
use Rattle.wesl_mangle.specs.Texts.{word_bytes_append}

abbrev pub Digit : ℕ → Type 0
Digit b = digit b ≡ true

pub digit_no_underscore : (b : ℕ) → Digit b → (b == 95) ≡ false
unfolding digit
digit_no_underscore b h = grind (arith, nat_tests)

-- what `decimal` writes is digits, and `numbered` is the number that digits write
numerals : IsNumeralModel (AllByRecursion Digit) (numbered 0)
unfolding digit
numerals = numerals_by_fold _ (search rules) numbered (search rules)

pub decimal_digits : (n : ℕ) → n < 2 ^ 64 → AllByRecursion Digit (decimal n)
decimal_digits = digits_decimal numerals

pub numbered_decimal : (n : ℕ) → n < 2 ^ 64 → numbered 0 (decimal n) ≡ n
numbered_decimal = digits_value-decimal numerals

-- f takes digits one by one into the number that it has
abbrev pub TakesDigits : {A : Type 0} → (ℕ → List ℕ → A) → Type 0
TakesDigits f = (n b : ℕ) (bs : List ℕ) → Digit b → f n (b ∷ bs) ≡ f (shifted n b) bs

takes_all : {A : Type 0} (f : ℕ → List ℕ → A) → TakesDigits f → (n : ℕ) (ds bs : List ℕ) → AllByRecursion Digit ds → f n (ds ++ bs) ≡ f (numbered n ds) bs
takes_all f takes n [] bs h = refl
takes_all f takes n (d ∷ ds) bs h = takes n d (ds ++ bs) h.0 ∙ takes_all f takes (shifted n d) ds bs h.1

pub takes_decimal : {A : Type 0} (f : ℕ → List ℕ → A) → TakesDigits f → (n : ℕ) (bs : List ℕ) → n < 2 ^ 64 → f 0 (decimal n ++ bs) ≡ f n bs
takes_decimal f takes n bs h = takes_all f takes 0 (decimal n) bs (decimal_digits n h) ∙ ap (λ m. f m bs) (numbered_decimal n h)

digits_bytes : (ds : List ℕ) → AllByRecursion Digit ds → word_bytes ds ≡ true
unfolding word_byte
digits_bytes [] h = refl
digits_bytes (d ∷ ds) h = and_from _ _ (or_right (letter d) _ (or_left _ _ h.0)) (digits_bytes ds h.1)

pub decimal_bytes : (n : ℕ) → n < 2 ^ 64 → word_bytes (decimal n) ≡ true
decimal_bytes n h = digits_bytes (decimal n) (decimal_digits n h)

-- a number of at most three digits and the underscore that ends it
pub ended_decimal_fits : (n : ℕ) → n < 1000 → (word_bytes (decimal n ++ (95 ∷ [])) ≡ true) × (length (decimal n ++ (95 ∷ [])) ≤ 4)
unfolding word_byte letter digit
ended_decimal_fits n h =
    let d = length-decimal-le 3 n (omega arith) h (omega arith) in
    (word_bytes_append (decimal n) (95 ∷ []) (decimal_bytes n (omega arith)) refl, simp length-append (omega arith))
