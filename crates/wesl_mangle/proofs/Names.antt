-- Names that are handed over.
use Rattle.wesl_path.specs.Name.{word_bytes, starts_well_text}
use Rattle.wesl_path.proofs.AsciiFacts.{word_bytes_utf8}
use Rattle.wesl_mangle.specs.Mangle.{Item, Identifier, is_word}
use Rattle.std.proofs.Common.{◌≡◌, true, ℕ, ◌≤◌, List, length, take, drop, IfOk, Ok, Err, Result, IsOk, IsUtf8, refl, sym, ap, ◌∙◌, arith}
use Rattle.std.proofs.lemmas.List.{take_at}
use Rattle.std.proofs.lemmas.Bool.{and_from, and_parts}
use Rattle.wesl_mangle.specs.Writes.{Answered}
use Rattle.wesl_mangle.specs.declared.fault.MangleFault.{MangleFault}
use Rattle.wesl_mangle.specs.declared.fault.MangleFault.TheVariants.{NoRoom}

-- the front of a buffer to which a text was delivered
pub delivered : (what was new : List ℕ) (n : ℕ) → Answered what was new (Ok n) → take n new ≡ what
delivered what was new n h = let k : length what ≡ n = sym h.0 in ap (take n) h.2 ∙ take_at what (drop n was) n k

-- a delivered identifier is a word of the output
pub delivered_word : (what was new : List ℕ) (n : ℕ) → Answered what was new (Ok n) → Identifier what → is_word (take n new) ≡ true
unfolding is_word
delivered_word what was new n h k = rw (delivered what was new n h) (and_from (starts_well_text what) (word_bytes what) k.starts k.bytes)

-- what was delivered can be read back
pub answered_back : (what was new : List ℕ) (r : Result ℕ MangleFault) (read : List ℕ → Item) (x : Item) → Answered what was new r → read what ≡ x → IfOk r (λ n. read (take n new) ≡ x)
answered_back what was new (Ok n) read x h e = ap read (delivered what was new n h) ∙ e
answered_back what was new (Err NoRoom) read x h e = tt

-- where there is room, a name is handed over
pub room_enough : (what was new : List ℕ) (r : Result ℕ MangleFault) → Answered what was new r → length what ≤ 1024 → length was ≡ 1024 → IsOk r
room_enough what was new (Ok n) h l m = refl
room_enough what was new (Err NoRoom) h l m = absurd (let k = h.0 in omega arith)

-- a name is text
pub word_utf8 : (bs : List ℕ) → is_word bs ≡ true → IsUtf8 bs
unfolding is_word
word_utf8 bs h = word_bytes_utf8 bs (and_parts (starts_well_text bs) (word_bytes bs) h).1
