-- An escaped name is an identifier of the output.
use Rattle.std.proofs.Common.{arith, ap, ◌∙◌, inl, inr, ⊎_elim}
use Rattle.std.specs.Prelude.{◌≡◌, ℕ, zero, suc, ◌+◌, ◌≤◌, true, ◌⊎◌, List, [], ◌∷◌, ◌++◌, length, codes, decimal, ◌==◌, refl}
use Rattle.std.specs.List.{flat_map, AllByRecursion}
use Rattle.std.proofs.lemmas.List.{length-append}
use Rattle.std.proofs.lemmas.Bool.{cases_Bool, cond-true, cond-false}
use Rattle.std.proofs.lemmas.Fmt.{length-decimal-le}
use Rattle.wesl_path.specs.Name.{digit, letter, word_byte, word_bytes, starts_well_text}
use Rattle.wesl_path.specs.Path.{Origin, absolute, relative, packaged, origin_words, path_words}
use Rattle.wesl_mangle.specs.Escape.{underscores, escaped, package_lead}
use Rattle.wesl_mangle.specs.Laws.{EscapeNamed}
use Rattle.wesl_mangle.specs.Texts.{Word, word_from_plain, path_words_words, starts_well_append, word_bytes_append, word_bytes_joined}
use Rattle.wesl_mangle.specs.DecimalText.{decimal_bytes, ended_decimal_fits}
use Rattle.wesl_mangle.specs.PathSizes.{sizes_path, length_joined, origin_count, origin_count_le}
use Rattle.wesl_mangle.specs.Escapes.{ended, underscores_le, underscores_countable, escape_as_words}

-- the two forms of an escaped word
escaped_cases : (w : List ℕ) → (escaped w ≡ w) ⊎ (escaped w ≡ 95 ∷ (decimal (underscores w) ++ w))
unfolding escaped
escaped_cases w = ⊎_elim (λ e. inl (cond-true _ _ _ e)) (λ e. inr (cond-false _ _ _ e)) (cases_Bool (underscores w == 0))

escaped_bytes : (w : List ℕ) → Word w → word_bytes (escaped w) ≡ true
unfolding word_byte letter digit
escaped_bytes w h =
    ⊎_elim
    (λ e. ap word_bytes e ∙ h.bytes)
    (λ e. ap word_bytes e ∙ word_bytes_append (decimal (underscores w)) w (decimal_bytes _ (underscores_countable w h)) h.bytes)
    (escaped_cases w)

escaped_starts : (w : List ℕ) → Word w → starts_well_text (escaped w) ≡ true
unfolding digit
escaped_starts w h = ⊎_elim (λ e. ap starts_well_text e ∙ h.starts) (λ e. ap starts_well_text e) (escaped_cases w)

-- `_` and two digits, since a word has at most 64 bytes
pub escaped_length : (w : List ℕ) → Word w → length (escaped w) ≤ length w + 3
escaped_length w h =
    let s = h.short in
    let u = underscores_le w in
    let d = length-decimal-le 2 (underscores w) (omega arith) (omega arith) (omega arith) in
    ⊎_elim
    (λ e. omega (arith, ap length e))
    (λ e. omega (arith, ap length e, length-append (decimal (underscores w)) w))
    (escaped_cases w)

ended_length : (w : List ℕ) → Word w → length (ended w) ≤ length w + 4
ended_length w h = simp length-append (let a = escaped_length w h in omega arith)

ended_bytes : (w : List ℕ) → Word w → word_bytes (ended w) ≡ true
unfolding word_byte letter digit
ended_bytes w h = word_bytes_append (escaped w) (95 ∷ []) (escaped_bytes w h) refl

lead_fits : (o : Origin) → origin_count o ≤ 256 → (word_bytes (package_lead o) ≡ true) × (length (package_lead o) ≤ 11)
unfolding word_byte letter digit
lead_fits absolute c = (refl, omega arith)
lead_fits (relative n) c = (refl, omega arith)
lead_fits (packaged part []) c = (refl, omega arith)
lead_fits (packaged part (next ∷ more)) c =
    let d = ended_decimal_fits (2 + length more) (omega arith) in
    (d.0, omega (arith, d.1))

starts_ended : (w x y : List ℕ) → Word w → starts_well_text ((ended w ++ x) ++ y) ≡ true
starts_ended w x y h = starts_well_append (ended w ++ x) y (starts_well_append (ended w) x (starts_well_append (escaped w) (95 ∷ []) (escaped_starts w h)))

starts_named : (o : Origin) (cs : List (List ℕ)) (i : List ℕ) → AllByRecursion Word (origin_words o ++ cs) → starts_well_text (package_lead o ++ (flat_map ended (origin_words o ++ cs) ++ escaped i)) ≡ true
unfolding digit
starts_named absolute cs i h = starts_ended (codes "package") _ (escaped i) h.0
starts_named (relative zero) cs i h = starts_ended (codes "self") _ (escaped i) h.0
starts_named (relative (suc n)) cs i h = starts_ended (codes "super") _ (escaped i) h.0
starts_named (packaged part []) cs i h = starts_ended part _ (escaped i) h.0
starts_named (packaged part (next ∷ more)) cs i h = refl

pub escape_named : EscapeNamed
escape_named p i s k =
    let ws = path_words p in
    let a = path_words_words p s in
    let w = word_from_plain i k in
    let l = lead_fits p.origin (origin_count_le p s) in
    let f = escape_as_words p i in
    record {
      starts = ap starts_well_text f ∙ starts_named p.origin p.components i a;
      bytes = ap word_bytes f ∙ word_bytes_append (package_lead p.origin) _ l.0 (word_bytes_append (flat_map ended ws) (escaped i) (word_bytes_joined ended ended_bytes ws a) (escaped_bytes i w));
      short =
          (let n = simp length-append at (ap length f) in
          let m = length_joined ended ended_length ws a in
          let t = sizes_path p s in
          let j = escaped_length i w in
          let r = w.short in
          let q = l.1 in
          omega arith);
    }
