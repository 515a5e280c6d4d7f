-- What lines a text has.
use Rattle.std.proofs.Common.{◌≡◌, ℕ, zero, suc, ◌+◌, ◌-◌, ◌<◌, min, true, false, eqb, List, [], ◌∷◌, ◌++◌, length, take, drop, sym, refl, ap, ◌∙◌, inl, inr, arith, length-append}
use Rattle.std.specs.List.{concat, IsFirstMatchOrLen}
use Rattle.std.proofs.lemmas.Bool.{cases_Bool}
use Rattle.std.proofs.lemmas.List.{drop_at, take_all}
use Rattle.wesl_path.specs.Path.{onto_first}
use Rattle.wesl_resolve.specs.Lines.{lines, first_line}

concat-onto_first : (b : ℕ) (ls : List (List ℕ)) → concat (onto_first b ls) ≡ b ∷ concat ls
concat-onto_first b [] = refl
concat-onto_first b (l ∷ ls) = refl

-- the lines of a text, put together, are the text
pub concat-lines : (bs : List ℕ) → concat (lines bs) ≡ bs
concat-lines [] = refl
concat-lines (b ∷ bs) =
    let e = ap (λ x. b ∷ x) (concat-lines bs) in
    elim (cases_Bool (eqb b 10)) [ inl h ↦ rw h e | inr h ↦ rw h (concat-onto_first b (lines bs) ∙ e) ]

-- a text that has a byte has a first line
lines_first : (bs : List ℕ) → 0 < length bs → lines bs ≡ first_line bs ∷ lines (drop (length (first_line bs)) bs)
lines_first [] h = absurd (omega arith)
lines_first (b ∷ []) h = elim (cases_Bool (eqb b 10)) [ inl e ↦ rw e | inr e ↦ rw e ]
lines_first (b ∷ (c ∷ cs)) h =
    elim (cases_Bool (eqb b 10)) [ inl e ↦ rw e | inr e ↦ rw e (ap (onto_first b) (lines_first (c ∷ cs) (omega arith))) ]

pub first_line_is : (bs line : List ℕ) (ls : List (List ℕ)) → lines bs ≡ line ∷ ls → first_line bs ≡ line
first_line_is [] line ls e = absurd (cc)
first_line_is (b ∷ bs) line ls e = cc (lines_first (b ∷ bs) (omega arith))

-- a line goes as far as the first 0x0A, or as the text
lines-first : (line back : List ℕ) (i : ℕ) → 0 < length line → length line ≡ min (i + 1) (length (line ++ back)) → IsFirstMatchOrLen (λ b. eqb b 10) (line ++ back) i → lines (line ++ back) ≡ line ∷ lines back
lines-first [] back i h l m = absurd (omega arith)
lines-first (b ∷ []) [] i h l m = elim (cases_Bool (eqb b 10)) [ inl e ↦ rw e | inr e ↦ rw e ]
lines-first (b ∷ []) (c ∷ cs) zero h l m = let e : eqb b 10 ≡ true = m.1 (omega arith) b in rw e
lines-first (b ∷ []) (c ∷ cs) (suc i) h l m = absurd (omega arith)
lines-first (b ∷ (c ∷ cs)) back zero h l m = absurd (omega arith)
lines-first (b ∷ (c ∷ cs)) back (suc i) h l m =
    let e : eqb b 10 ≡ false = m.0 0 b (omega arith) (omega arith) in
    let rest = lines-first (c ∷ cs) back i (omega arith) (omega arith) ((λ k d a z. m.0 (suc k) d (omega arith) (omega arith)), (λ a d. m.1 (omega arith) d)) in
    rw e (ap (onto_first b) rest)

-- the same where the text was cut behind the line
pub lines-cut : (text rest line back : List ℕ) (i : ℕ) → rest ≡ text → rest ≡ line ++ back → 0 < length rest → length line ≡ min (i + 1) (length rest) → IsFirstMatchOrLen (λ b. eqb b 10) rest i → lines text ≡ line ∷ lines (take (length text - length line) (drop (length line) text))
lines-cut text rest line back i e s h l m =
    let n = length-append line back in
    let d : drop (length line) (line ++ back) ≡ back = drop_at line back (length line) refl in
    let t : take (length (line ++ back) - length line) back ≡ back = take_all (length (line ++ back) - length line) back (omega arith) in
    let k : 0 < length line = omega (arith, ap length s) in
    rw (sym e ∙ s) (rw (d, t) (lines-first line back i k (rw s at l) (rw s at m)))
