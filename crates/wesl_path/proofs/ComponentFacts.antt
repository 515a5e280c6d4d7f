-- Components without an origin are read in one way.
use Rattle.std.proofs.Common.{◌≡◌, ℕ, ◌+◌, ◌-◌, ◌≤◌, true, false, eqb, leb, List, [], ◌∷◌, ◌++◌, length, take, drop, codes, Decides, sym, ap, ◌∙◌, subst, arith}
use Rattle.std.specs.List.{AllByRecursion}
use Rattle.std.specs.Str.{bytes_eq}
use Rattle.std.proofs.lemmas.List.{append_assoc, append-nil, append_cancel_left, length-drop, drop_all}
use Rattle.std.proofs.lemmas.Bool.{and_parts, and_from, leb-true, le-leb, eqb-true, eq-eqb, both_ways}
use Rattle.std.proofs.lemmas.Slice.Eq.{bytes_eq-Decides}
use Rattle.wesl_path.specs.Name.{plain, Plain}
use Rattle.wesl_path.specs.Path.{led, words, all_plain}
use Rattle.wesl_path.specs.Components.{AreComponents, are_components_text}
use Rattle.wesl_path.specs.Words.{first_word, after_word, Passing}
use Rattle.wesl_path.specs.declared.words.Step.TheVariants.{Component}
use Rattle.wesl_path.proofs.WordFacts.{plain_inner, first_is, after_is, first_taken, word_parts, led_prefix, led_all}
use Rattle.wesl_path.proofs.PathFacts.{components_edge, words_after_lead, words_components, all_plain_decides}
use Rattle.wesl_path.proofs.OriginFacts.{text_left}
use Rattle.wesl_path.proofs.PassedFacts.{nothing_led}

pub components_from_test : (bs : List ℕ) → are_components_text bs ≡ true → (AllByRecursion Plain (words bs)) × (led (codes "::") (words bs) ≡ codes "::" ++ bs) × (length bs ≤ 255)
unfolding are_components_text
components_from_test bs e =
    let a = and_parts (bytes_eq (led (codes "::") (words bs)) (codes "::" ++ bs)) _ e in
    let b = and_parts (all_plain (words bs)) (leb (length bs) 255) a.1 in
    ((all_plain_decides (words bs)).0 b.0, (bytes_eq-Decides _ _).0 a.0, leb-true (length bs) 255 b.1)

-- the names are the words of the text
words_are : (bs : List ℕ) (h : AreComponents bs) → words bs ≡ h.names
words_are bs h = sym (words_after_lead Component bs) ∙ (ap words (sym h.printed) ∙ words_components h.names h.plain)

pub test_from_components : (bs : List ℕ) → AreComponents bs → are_components_text bs ≡ true
unfolding are_components_text
test_from_components bs h =
    let e = words_are bs h in
    and_from _ _ ((bytes_eq-Decides _ _).1 (ap (led (codes "::")) e ∙ h.printed))
    (and_from _ _ ((all_plain_decides (words bs)).1 (subst (AllByRecursion Plain) (sym e) h.plain)) (le-leb (length bs) 255 h.short))

-- the first name, and what follows it
first_name : (bs : List ℕ) → AreComponents bs → (w : List ℕ) × (ws : List (List ℕ)) × Plain w × AllByRecursion Plain ws × (bs ≡ w ++ led (codes "::") ws)
first_name bs h = by h.names h.plain h.printed
  where
    by : (ns : List (List ℕ)) → AllByRecursion Plain ns → led (codes "::") ns ≡ codes "::" ++ bs → (w : List ℕ) × (ws : List (List ℕ)) × Plain w × AllByRecursion Plain ws × (bs ≡ w ++ led (codes "::") ws)
    by [] hp e = absurd (let z : ◌≡◌ {A = ℕ} 0 1 = cc in omega arith)
    by (w ∷ ws) hp e = (w, ws, hp.0, hp.1, sym (append_cancel_left (codes "::") (w ++ led (codes "::") ws) bs (sym (append_assoc (codes "::") w (led (codes "::") ws)) ∙ e)))

module _ (text : List ℕ) (n : ℕ) (long : n ≡ 0 + length (first_word text)) where
  pub no_components : plain (take n text) ≡ false → AreComponents text → ⊥
  no_components e h =
      let f = first_name text h in
      let same : first_word text ≡ f.0 = ap first_word f.4 ∙ first_is f.0 _ (plain_inner f.0 f.2) (components_edge f.1) in
      both_ways (plain f.0) (ap plain (sym (first_taken text n long ∙ same)) ∙ e) f.2

  pub passed_components : plain (take n text) ≡ true → length text ≤ 255 → (count end : ℕ) → Passing Component (count + 1) text n count end
      → Decides (eqb end (length text)) (AreComponents text)
  passed_components e short count end p =
      let w = first_word text in
      let hw : Plain w = subst Plain (first_taken text n long) e in (
        (λ t. let k = eqb-true end (length text) t in
            let none : drop end text ≡ [] = drop_all end text (omega arith) in
            let rest : after_word text ≡ led (codes "::") p.ws =
            sym (text_left text n long) ∙ (p.reads ∙ (ap (λ x. led (codes "::") p.ws ++ x) none ∙ append-nil (led (codes "::") p.ws))) in
            record {
              names = w ∷ p.ws;
              plain = (hw, p.fits);
              printed = append_assoc (codes "::") w (led (codes "::") p.ws) ∙ ap (λ x. codes "::" ++ x) (ap (λ x. w ++ x) (sym rest) ∙ word_parts text);
              short = short;
            }),
        (λ h. let f = first_name text h in
            let edge = components_edge f.1 in
            let rest : after_word text ≡ led (codes "::") f.1 = ap after_word f.4 ∙ after_is f.0 _ (plain_inner f.0 f.2) edge in
            let q = led_prefix Component p.ws f.1 (drop end text) [] p.fits f.3 p.edge tt nothing_led
            (sym p.reads ∙ (text_left text n long ∙ (rest ∙ sym (append-nil (led (codes "::") f.1))))) in
            let a = led_all Component p.ws f.1 (drop end text) [] tt (p.stops (omega arith)) f.3 q in
            let l : length text - end ≡ 0 = sym (length-drop end text) ∙ ap length a.1 in
            let v = p.within in
            eq-eqb end (length text) (omega arith)),
      )
