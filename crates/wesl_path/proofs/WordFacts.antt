-- Words: where they end, and that there is one way to read words that follow one another.
use Rattle.std.proofs.Common.{Bool, MatchOption, ◌≡◌, ℕ, ◌+◌, ◌-◌, ◌<◌, ◌≤◌, true, false, leb, ◌&&◌, List, [], ◌∷◌, ◌++◌, length, take, drop, codes, sym, refl, ap, ◌∙◌, subst, inl, inr, one-add, arith, lit<}
use Rattle.std.specs.List.{AllByRecursion, list_all, position, position_or_len}
use Rattle.std.specs.Bool.{then_some}
use Rattle.std.specs.Option.{unwrap_or}
use Rattle.std.specs.Str.{bytes_eq}
use Rattle.std.proofs.lemmas.List.{append_assoc, append-nil, length_push, append_cancel_left, take-append-drop, take_at, take_rest, drop_at, drop-drop, length-drop, length-append}
use Rattle.std.proofs.lemmas.List.Recursion.{is_position_or_len}
use Rattle.std.proofs.ByRecursion.{All-drop, All-push}
use Rattle.std.proofs.lemmas.Bool.{and_parts, leb-true, cases_Bool, cases_lt, lt-ltb, le-ltb, not-true, both_ways}
use Rattle.std.proofs.lemmas.Bool.Decides.{nat_tests}
use Rattle.std.proofs.lemmas.Slice.Eq.{bytes_eq-Decides}
use Rattle.wesl_path.specs.Name.{digit, letter, word_byte, word_bytes, starts_well_text, reserved, plain, Plain}
use Rattle.wesl_path.specs.Path.{parts_words, led}
use Rattle.wesl_path.specs.Words.{first_word, after_word, Boundary, lead_of, fitting, Fits, NotLed, LedWord, Passing}
use Rattle.wesl_path.specs.declared.words.Step.{Step}
use Rattle.wesl_path.specs.declared.words.Step.TheVariants.{Part, Super, Component}

-- no byte of the word parts words
abbrev pub Inner : List ℕ → Type 0
Inner w = AllByRecursion (λ b. parts_words b ≡ false) w

pub first_inner : (bs : List ℕ) → Inner (first_word bs)
first_inner [] = tt
first_inner (b ∷ bs) = elim (cases_Bool (parts_words b)) [ inl e ↦ rw e tt | inr e ↦ rw e (e, first_inner bs) ]

pub after_edge : (bs : List ℕ) → Boundary (after_word bs)
after_edge [] = tt
after_edge (b ∷ bs) = elim (cases_Bool (parts_words b)) [ inl e ↦ rw e e | inr e ↦ rw e (after_edge bs) ]

pub word_parts : (bs : List ℕ) → first_word bs ++ after_word bs ≡ bs
word_parts [] = refl
word_parts (b ∷ bs) = elim (cases_Bool (parts_words b)) [ inl e ↦ rw e | inr e ↦ rw e (ap (λ x. b ∷ x) (word_parts bs)) ]

-- a word that is followed by a boundary is the first word
pub first_is : (w rest : List ℕ) → Inner w → Boundary rest → first_word (w ++ rest) ≡ w
first_is [] [] h k = refl
first_is [] (b ∷ bs) h k = rw k
first_is (a ∷ w) rest h k = let e = h.0 in rw e (ap (λ x. a ∷ x) (first_is w rest h.1 k))

pub after_is : (w rest : List ℕ) → Inner w → Boundary rest → after_word (w ++ rest) ≡ rest
after_is [] [] h k = refl
after_is [] (b ∷ bs) h k = rw k
after_is (a ∷ w) rest h k = let e = h.0 in rw e (after_is w rest h.1 k)

pub word_within : (bs : List ℕ) → length (first_word bs) ≤ length bs
word_within bs = let e = ap length (word_parts bs) in omega (arith, simp length-append at e)

-- the first word ends at the first byte that parts words
pub first_word_length : (bs : List ℕ) → unwrap_or (position parts_words bs) (length bs) ≡ length (first_word bs)
first_word_length bs =
    let at = position_or_len parts_words bs in
    let e : length (first_word bs) ≡ at =
    is_position_or_len (λ bs. length (first_word bs)) parts_words refl (λ b bs. elim (cases_Bool (parts_words b)) [ inl e ↦ rw e | inr e ↦ rw e (sym (one-add _)) ]) bs in
    let l = word_within bs in
    elim (cases_lt at (length bs)) [
      | inl h ↦ (let k = lt-ltb at (length bs) h in rw k (sym e))
      | inr h ↦ (let k = le-ltb at (length bs) h in rw k (omega arith))
    ]

-- a word of any kind has no byte that parts words, and is not empty
word_byte_inner : (b : ℕ) → word_byte b ≡ true → parts_words b ≡ false
unfolding word_byte letter digit
word_byte_inner b e = grind (arith, nat_tests)

word_bytes_inner : (w : List ℕ) → word_bytes w ≡ true → Inner w
word_bytes_inner [] e = tt
word_bytes_inner (b ∷ w) e = let p = and_parts (word_byte b) (word_bytes w) e in (word_byte_inner b p.0, word_bytes_inner w p.1)

pub word_bytes_all : (w : List ℕ) → word_bytes w ≡ list_all word_byte w
word_bytes_all [] = refl
word_bytes_all (b ∷ w) = ap (λ t. word_byte b && t) (word_bytes_all w)

pub plain_word_bytes : (w : List ℕ) → Plain w → word_bytes w ≡ true
unfolding plain
plain_word_bytes w h =
    let p = and_parts (starts_well_text w) _ h in
    let q = and_parts (leb (length w) 64) _ p.1 in
    (and_parts (word_bytes w) _ q.1).0

pub plain_starts : (w : List ℕ) → Plain w → starts_well_text w ≡ true
unfolding plain
plain_starts w h = (and_parts (starts_well_text w) _ h).0

pub plain_short : (w : List ℕ) → Plain w → length w ≤ 64
unfolding plain
plain_short w h =
    let p = and_parts (starts_well_text w) _ h in
    leb-true (length w) 64 (and_parts (leb (length w) 64) _ p.1).0

pub plain_free : (w : List ℕ) → Plain w → reserved w ≡ false
unfolding plain
plain_free w h =
    let p = and_parts (starts_well_text w) _ h in
    let q = and_parts (leb (length w) 64) _ p.1 in
    not-true (reserved w) (and_parts (word_bytes w) _ q.1).1

pub plain_inner : (w : List ℕ) → Plain w → Inner w
plain_inner w h = word_bytes_inner w (plain_word_bytes w h)

super_inner : (w : List ℕ) → bytes_eq w (codes "super") ≡ true → Inner w
super_inner w e = let p = (bytes_eq-Decides w (codes "super")).0 e in subst Inner (sym p) (refl, (refl, (refl, (refl, (refl, tt)))))

pub fits_inner : (s : Step) (w : List ℕ) → Fits s w → Inner w
fits_inner Part w h = plain_inner w h
fits_inner Super w h = super_inner w h
fits_inner Component w h = plain_inner w h

-- each lead begins with a byte that parts words
pub led_edge : (s : Step) (ws : List (List ℕ)) (rest : List ℕ) → Boundary rest → Boundary (led (lead_of s) ws ++ rest)
led_edge s [] rest h = h
led_edge Part (w ∷ ws) rest h = refl
led_edge Super (w ∷ ws) rest h = refl
led_edge Component (w ∷ ws) rest h = refl

-- Words of a kind can be read in one way, up to where none of the kind follows.
pub record Prefix (s : Step) (ws cs : List (List ℕ)) (rest tail : List ℕ) : Type 0 where
  pub few : length ws ≤ length cs
  pub same : ws ≡ take (length ws) cs
  pub left : rest ≡ led (lead_of s) (drop (length ws) cs) ++ tail

pub led_prefix : (s : Step) (ws cs : List (List ℕ)) (rest tail : List ℕ) → AllByRecursion (Fits s) ws → AllByRecursion (Fits s) cs → Boundary rest → Boundary tail → NotLed s tail
    → led (lead_of s) ws ++ rest ≡ led (lead_of s) cs ++ tail → Prefix s ws cs rest tail
led_prefix s [] cs rest tail hw hc hr ht stop e = record { few = omega arith; same = refl; left = e }
led_prefix s (w ∷ ws) [] rest tail hw hc hr ht stop e =
    absurd (stop w (led (lead_of s) ws ++ rest) hw.0 (led_edge s ws rest hr) (sym e ∙ simp append_assoc))
led_prefix s (w ∷ ws) (c ∷ cs) rest tail hw hc hr ht stop e =
    let R = led (lead_of s) ws ++ rest in
    let T = led (lead_of s) cs ++ tail in
    let f : lead_of s ++ (w ++ R) ≡ lead_of s ++ (c ++ T) = simp append_assoc at e in
    let g : w ++ R ≡ c ++ T = append_cancel_left (lead_of s) (w ++ R) (c ++ T) f in
    let same_word : w ≡ c = sym (first_is w R (fits_inner s w hw.0) (led_edge s ws rest hr)) ∙ (ap first_word g ∙ first_is c T (fits_inner s c hc.0) (led_edge s cs tail ht)) in
    let same_rest : R ≡ T = sym (after_is w R (fits_inner s w hw.0) (led_edge s ws rest hr)) ∙ (ap after_word g ∙ after_is c T (fits_inner s c hc.0) (led_edge s cs tail ht)) in
    let p = led_prefix s ws cs rest tail hw.1 hc.1 hr ht stop same_rest in
    let q = p.same in
    record { few = (let k = p.few in omega arith); same = (cc); left = p.left }

-- where no further word of the kind follows, none is left
led_none : (s : Step) (ds : List (List ℕ)) (rest tail : List ℕ) → Boundary tail → NotLed s rest → AllByRecursion (Fits s) ds → rest ≡ led (lead_of s) ds ++ tail → (ds ≡ []) × (rest ≡ tail)
led_none s [] rest tail ht stop h e = (refl, e)
led_none s (d ∷ ds) rest tail ht stop h e = absurd (stop d (led (lead_of s) ds ++ tail) h.0 (led_edge s ds tail ht) (e ∙ simp append_assoc))

pub led_all : (s : Step) (ws cs : List (List ℕ)) (rest tail : List ℕ) → Boundary tail → NotLed s rest → AllByRecursion (Fits s) cs → Prefix s ws cs rest tail → (ws ≡ cs) × (rest ≡ tail)
led_all s ws cs rest tail ht stop hc p =
    let n = led_none s (drop (length ws) cs) rest tail ht stop (All-drop (Fits s) (length ws) cs hc) p.left in
    let whole = take-append-drop (length ws) cs in
    (p.same ∙ (sym (append-nil (take (length ws) cs)) ∙ (ap (λ x. take (length ws) cs ++ x) (sym n.0) ∙ whole)), n.1)

lead_long : (s : Step) → 0 < length (lead_of s)
lead_long Part = lit< tt
lead_long Super = lit< tt
lead_long Component = lit< tt

pub first_taken : (bs : List ℕ) (n : ℕ) → n ≡ 0 + length (first_word bs) → take n bs ≡ first_word bs
first_taken bs n e =
    let k : length (first_word bs) ≡ n = omega (arith, e) in
    ap (take n) (sym (word_parts bs)) ∙ take_at (first_word bs) (after_word bs) n k

-- a text that begins with a lead, read from `at` on
pub after_lead : (text lead rest : List ℕ) (at : ℕ) → bytes_eq (take (length lead) (take (length text - at) (drop at text))) lead ≡ true
    → rest ≡ drop (length lead) (take (length text - at) (drop at text)) → drop at text ≡ lead ++ rest
after_lead text lead rest at e f =
    let s = take (length text - at) (drop at text) in
    let p = (bytes_eq-Decides (take (length lead) s) lead).0 e in
    sym (take_rest text at) ∙ sym (take-append-drop (length lead) s) ∙ cc

-- the word after a lead, found by its end in what follows the lead
pub led_word_at : (s : Step) (text : List ℕ) (at : ℕ) (rest : List ℕ) (n : ℕ) → at ≤ length text → drop at text ≡ lead_of s ++ rest → n ≡ 0 + length (first_word rest)
    → fitting s (take n rest) ≡ true → LedWord s text at ((length text - length rest) + n)
led_word_at s text at rest n h e l f =
    let w = first_word rest in
    let front : drop at text ≡ (lead_of s ++ w) ++ after_word rest = e ∙ (ap (λ x. lead_of s ++ x) (sym (word_parts rest)) ∙ sym (append_assoc (lead_of s) w (after_word rest))) in
    let sizes : length text - at ≡ length (lead_of s) + length rest = sym (length-drop at text) ∙ (ap length e ∙ length-append (lead_of s) rest) in
    let lead-some : 0 < length (lead_of s) = lead_long s in
    let end : (length text - length rest) + n ≡ at + length (lead_of s ++ w) = simp length-append (omega arith) in
    let short = word_within rest in
    let left : drop ((length text - length rest) + n) text ≡ after_word rest =
    ap (λ k. drop k text) end ∙ (sym (drop-drop (length (lead_of s ++ w)) at text) ∙ (ap (drop (length (lead_of s ++ w))) front ∙ drop_at (lead_of s ++ w) (after_word rest) _ refl)) in
    record {
      word = w;
      fits = ap (fitting s) (sym (first_taken rest n l)) ∙ f;
      edge = subst Boundary (sym left) (after_edge rest);
      reads = e ∙ ap (λ x. lead_of s ++ x) (sym (word_parts rest) ∙ ap (λ x. w ++ x) (sym left));
      ahead = omega arith;
      within = omega arith;
    }

pub led_word_other : (s : Step) (text : List ℕ) (at : ℕ) (rest : List ℕ) (n : ℕ) → drop at text ≡ lead_of s ++ rest → n ≡ 0 + length (first_word rest)
    → fitting s (take n rest) ≡ false → NotLed s (drop at text)
led_word_other s text at rest n e l f w more hw hb k =
    let same : rest ≡ w ++ more = append_cancel_left (lead_of s) rest (w ++ more) (sym e ∙ k) in
    let word : first_word rest ≡ w = ap first_word same ∙ first_is w more (fits_inner s w hw) hb in
    both_ways (fitting s w) (ap (fitting s) (sym (first_taken rest n l ∙ word)) ∙ f) hw

-- the word after a lead, by the test whether it is of the kind
pub led_word_told : (s : Step) (text : List ℕ) (at : ℕ) (rest : List ℕ) (n : ℕ) (b : Bool) → at ≤ length text → drop at text ≡ lead_of s ++ rest → n ≡ 0 + length (first_word rest)
    → b ≡ fitting s (take n rest) → MatchOption (then_some b ((length text - length rest) + n)) (NotLed s (drop at text)) (λ end. LedWord s text at end)
led_word_told s text at rest n true h e l f = led_word_at s text at rest n h e l (sym f)
led_word_told s text at rest n false h e l f = led_word_other s text at rest n e l (sym f)

led_push : (s : Step) (ws : List (List ℕ)) (w rest : List ℕ) → led (lead_of s) ws ++ (lead_of s ++ (w ++ rest)) ≡ led (lead_of s) (ws ++ w ∷ []) ++ rest
led_push s [] w rest = simp (append_assoc, append-nil)
led_push s (v ∷ ws) w rest =
    append_assoc (lead_of s ++ v) (led (lead_of s) ws) _ ∙ (ap (λ x. (lead_of s ++ v) ++ x) (led_push s ws w rest) ∙ sym (append_assoc (lead_of s ++ v) _ rest))

-- one word more that was passed
pub pass_more : (s : Step) (text : List ℕ) (at n end next : ℕ) → Passing s n text at n end → LedWord s text end next → Passing s (n + 1) text at (n + 1) next
pass_more s text at n end next p w =
    record {
      ws = p.ws ++ w.word ∷ [];
      fits = All-push (Fits s) p.ws w.word p.fits w.fits;
      many = (let k = p.many in simp length_push (omega arith));
      few = omega arith;
      reads = p.reads ∙ (ap (λ x. led (lead_of s) p.ws ++ x) w.reads ∙ led_push s p.ws w.word (drop next text));
      edge = w.edge;
      stops = λ l. absurd (omega arith);
      ahead = (let a = p.ahead in let b = w.ahead in omega arith);
      within = w.within;
    }
