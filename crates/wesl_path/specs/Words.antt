-- Words in a text, and the words that follow one another, each after its lead.
use Rattle.std.specs.Prelude.{◌≡◌, ℕ, ◌+◌, ◌<◌, ◌≤◌, Bool, true, cond, List, [], ◌∷◌, ◌++◌, length, drop, codes, ◌≢◌}
use Rattle.std.specs.List.{AllByRecursion}
use Rattle.std.specs.Str.{bytes_eq}
use Rattle.wesl_path.specs.Name.{plain}
use Rattle.wesl_path.specs.Path.{parts_words, led}
use Rattle.wesl_path.specs.declared.words.Step.{Step}
use Rattle.wesl_path.specs.declared.words.Step.TheVariants.{Part, Super, Component}

-- the word at the front of a text, and what follows it
abbrev pub first_word : List ℕ → List ℕ
first_word [] = []
first_word (b ∷ bs) = cond (parts_words b) [] (b ∷ first_word bs)

abbrev pub after_word : List ℕ → List ℕ
after_word [] = []
after_word (b ∷ bs) = cond (parts_words b) (b ∷ bs) (after_word bs)

-- a word may end before this
abbrev pub Boundary : List ℕ → Type 0
Boundary [] = Unit {0}
Boundary (b ∷ bs) = parts_words b ≡ true

-- what stands before each word of a kind
abbrev pub lead_of : Step → List ℕ
lead_of Part = codes "/"
lead_of Super = codes "::"
lead_of Component = codes "::"

-- which words are of the kind
abbrev pub fitting : Step → List ℕ → Bool
fitting Part w = plain w
fitting Super w = bytes_eq w (codes "super")
fitting Component w = plain w

abbrev pub Fits : Step → List ℕ → Type 0
Fits s w = fitting s w ≡ true

-- no word of the kind comes next
abbrev pub NotLed : Step → List ℕ → Type 0
NotLed s bs = (w rest : List ℕ) → Fits s w → Boundary rest → bs ≢ lead_of s ++ (w ++ rest)

-- a word of the kind stands at `at`, and ends at `end`
pub record LedWord (s : Step) (text : List ℕ) (at end : ℕ) : Type 0 where
  pub word : List ℕ
  pub fits : Fits s word
  pub edge : Boundary (drop end text)
  pub reads : drop at text ≡ lead_of s ++ (word ++ drop end text)
  pub ahead : at < end
  pub within : end ≤ length text

-- words of a kind stand from `at` to `end`, as many as there are or as were asked for
pub record Passing (s : Step) (most : ℕ) (text : List ℕ) (at count end : ℕ) : Type 0 where
  pub ws : List (List ℕ)
  pub fits : AllByRecursion (Fits s) ws
  pub many : count ≡ length ws
  pub few : count ≤ most
  pub reads : drop at text ≡ led (lead_of s) ws ++ drop end text
  pub edge : Boundary (drop end text)
  pub stops : count < most → NotLed s (drop end text)
  pub ahead : at + count ≤ end
  pub within : end ≤ length text
