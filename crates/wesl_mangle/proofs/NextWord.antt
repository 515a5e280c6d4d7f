-- The words of a text from its first on.
use Rattle.std.proofs.Common.{◌≡◌, ℕ, ◌+◌, ◌<◌, Bool, true, not, List, [], ◌∷◌, length, take, drop, Some, None, cond, nat_lt, refl, sym, ap, ◌∙◌, ⊎_elim, one-add, arith}
use Rattle.std.specs.List.{position, position_or_len}
use Rattle.std.proofs.lemmas.Bool.{cases_Bool, cond-true, cond-false, not-true, ltb-false}
use Rattle.std.proofs.lemmas.List.{take_at, drop_at, drop_all, at_drop_more}
use Rattle.std.proofs.lemmas.List.Recursion.{is_position_or_len}
use Rattle.std.proofs.lemmas.List.Quantifiers.{position-Some}
use Rattle.wesl_path.specs.Path.{parts_words, words}
use Rattle.wesl_path.specs.Words.{first_word, after_word}
use Rattle.wesl_path.proofs.WordFacts.{first_inner, after_edge, word_parts}
use Rattle.wesl_path.proofs.PathFacts.{words_front}

abbrev pub inside_word : ℕ → Bool
inside_word b = not (parts_words b)

pub record Begins (bs : List ℕ) (n : ℕ) : Type 0 where
  pub within : n < length bs
  pub same : words bs ≡ words (drop n bs)
  pub some : 0 < length (first_word (drop n bs))

skipped : (b : ℕ) (bs : List ℕ) → parts_words b ≡ true → words (b ∷ bs) ≡ words bs
unfolding words
skipped b bs e = rw e refl

-- how many bytes that part words come first
parting : List ℕ → ℕ
parting [] = 0
parting (b ∷ bs) = cond (inside_word b) 0 (1 + parting bs)

parting_is : (bs : List ℕ) → parting bs ≡ position_or_len inside_word bs
unfolding parting
parting_is bs = is_position_or_len parting inside_word refl (λ b bs. refl) bs

words_behind : (bs : List ℕ) → words bs ≡ words (drop (parting bs) bs)
unfolding parting
words_behind [] = refl
words_behind (b ∷ bs) =
    ⊎_elim
    (λ e. skipped b bs e ∙ words_behind bs ∙ rw (e, one-add (parting bs)) refl)
    (λ e. rw e refl)
    (cases_Bool (parts_words b))

from_start : (bs : List ℕ) → words bs ≡ words (drop (position_or_len inside_word bs) bs)
from_start bs = words_behind bs ∙ ap (λ n. words (drop n bs)) (parting_is bs)

start_is : (bs : List ℕ) (n : ℕ) → position inside_word bs ≡ Some n → position_or_len inside_word bs ≡ n
start_is bs n e =
    ⊎_elim
    (λ t. let k = cond-true _ (Some (position_or_len inside_word bs)) None t in cc)
    (λ t. absurd (let k = cond-false _ (Some (position_or_len inside_word bs)) None t in cc))
    (cases_Bool (nat_lt (position_or_len inside_word bs) (length bs)))

pub begins : (bs : List ℕ) (n : ℕ) → position inside_word bs ≡ Some n → Begins bs n
begins bs n e =
    let s = position-Some inside_word bs n 0 e in
    record {
      within = s.0;
      same = from_start bs ∙ ap (λ k. words (drop k bs)) (start_is bs n e);
      some = omega (arith, ap length (at_drop_more first_word bs n 0 s.0 ∙ cond-false _ _ _ (not-true _ s.1)));
    }

pub begins_nowhere : (bs : List ℕ) → position inside_word bs ≡ None → words bs ≡ []
unfolding words
begins_nowhere bs e =
    ⊎_elim
    (λ t. absurd (let k = cond-true _ (Some (position_or_len inside_word bs)) None t in cc))
    (λ t. from_start bs ∙ ap words (drop_all _ bs (let k = ltb-false _ _ t in omega arith)))
    (cases_Bool (nat_lt (position_or_len inside_word bs) (length bs)))

-- a text that begins with a word, parted behind it
pub words_parted : (bs : List ℕ) (n : ℕ) → 0 < length (first_word bs) → n ≡ 0 + length (first_word (drop 0 bs)) → words bs ≡ take n bs ∷ words (drop n bs)
words_parted bs n h e =
    let k : length (first_word bs) ≡ n = omega (arith, e) in
    ap words (sym (word_parts bs))
    ∙ words_front (first_word bs) (after_word bs) (record { inner = first_inner bs; some = h }) (after_edge bs)
    ∙ (ap (λ w. w ∷ words (after_word bs)) (sym (ap (take n) (sym (word_parts bs)) ∙ take_at (first_word bs) (after_word bs) n k))
    ∙ ap (λ rest. take n bs ∷ words rest) (sym (ap (drop n) (sym (word_parts bs)) ∙ drop_at (first_word bs) (after_word bs) n k)))
