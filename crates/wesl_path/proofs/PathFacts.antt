-- Paths: what is printed is read back, and in one way.
use Rattle.std.proofs.Common.{◌≡◌, ℕ, zero, suc, ◌+◌, ◌<◌, true, false, cond, eqb, leb, List, [], ◌∷◌, ◌++◌, length, take, drop, replicate, codes, Decides, sym, refl, ap, ◌∙◌, subst, zero-add, arith}
use Rattle.std.specs.List.{AllByRecursion}
use Rattle.std.specs.Str.{bytes_eq}
use Rattle.std.proofs.lemmas.List.{append_assoc, append-nil, take_at, drop_at}
use Rattle.std.proofs.lemmas.List.Sums.{sum_by-append, sum_by-cons}
use Rattle.std.proofs.lemmas.Bool.{and_parts, and_from, or_parts, leb-true, le-leb}
use Rattle.std.proofs.lemmas.Bool.Decides.{nat_tests}
use Rattle.std.proofs.ByRecursion.{Decides-by_and}
use Rattle.std.proofs.lemmas.Slice.Eq.{bytes_eq-Decides}
use Rattle.wesl_path.specs.Name.{reserved, plain, Plain}
use Rattle.wesl_path.specs.Path.{origin_words, path_words, Origin, absolute, relative, packaged, Path, led, shown, PlainOrigin, Sound, IsPath, parts_words, onto_first, pieces, without_empty, words, slashes, after_super, of_words, path_of, all_plain, plain_origin, is_path_text}
use Rattle.wesl_path.specs.Words.{Boundary, lead_of}
use Rattle.wesl_path.specs.declared.words.Step.{Step}
use Rattle.wesl_path.specs.declared.words.Step.TheVariants.{Part, Super, Component}
use Rattle.wesl_path.proofs.WordFacts.{Inner, plain_inner, plain_starts, plain_free, led_edge}

-- a word that has a byte, and none that parts words
pub record Solid (w : List ℕ) : Type 0 where
  pub inner : Inner w
  pub some : 0 < length w

pub plain_solid : (w : List ℕ) → Plain w → Solid w
plain_solid [] h = absurd (let e = plain_starts [] h in let z : ◌≡◌ {A = ℕ} 0 1 = cc in omega arith)
plain_solid (b ∷ w) h = record { inner = plain_inner (b ∷ w) h; some = omega arith }

pub plain_solids : (ws : List (List ℕ)) → AllByRecursion Plain ws → AllByRecursion Solid ws
plain_solids [] h = tt
plain_solids (w ∷ ws) h = (plain_solid w h.0, plain_solids ws h.1)

pieces_all : (w : List ℕ) → Inner w → pieces w ≡ w ∷ []
pieces_all [] h = refl
pieces_all (b ∷ w) h = let e = h.0 in rw e (ap (onto_first b) (pieces_all w h.1))

pieces_at : (w : List ℕ) (b : ℕ) (rest : List ℕ) → Inner w → parts_words b ≡ true → pieces (w ++ b ∷ rest) ≡ w ∷ pieces rest
pieces_at [] b rest h e = rw e
pieces_at (a ∷ w) b rest h e = let k = h.0 in rw k (ap (onto_first a) (pieces_at w b rest h.1 e))

keeps_some : (w : List ℕ) (ws : List (List ℕ)) → 0 < length w → without_empty (w ∷ ws) ≡ w ∷ without_empty ws
keeps_some [] ws h = absurd (omega arith)
keeps_some (b ∷ w) ws h = refl

-- a byte that parts words is passed over
words_skip : (bs : List ℕ) → Boundary bs → words bs ≡ words (drop 1 bs)
unfolding words
words_skip [] k = refl
words_skip (b ∷ bs) k = rw k

-- the words of a text are its first word and those of the rest
pub words_front : (w rest : List ℕ) → Solid w → Boundary rest → words (w ++ rest) ≡ w ∷ words rest
unfolding words
words_front w [] h k = ap without_empty (ap pieces (append-nil w) ∙ pieces_all w h.inner) ∙ keeps_some w [] h.some
words_front w (b ∷ rest) h k =
    ap without_empty (pieces_at w b rest h.inner k) ∙ (keeps_some w (pieces rest) h.some ∙ ap (λ x. w ∷ x) (sym (words_skip (b ∷ rest) k)))

pub words_after_lead : (s : Step) (bs : List ℕ) → words (lead_of s ++ bs) ≡ words bs
unfolding words
words_after_lead Part bs = refl
words_after_lead Super bs = refl
words_after_lead Component bs = refl

pub words_led : (s : Step) (ws : List (List ℕ)) (rest : List ℕ) → AllByRecursion Solid ws → Boundary rest → words (led (lead_of s) ws ++ rest) ≡ ws ++ words rest
words_led s [] rest h k = refl
words_led s (w ∷ ws) rest h k =
    ap words (append_assoc (lead_of s ++ w) (led (lead_of s) ws) rest ∙ append_assoc (lead_of s) w (led (lead_of s) ws ++ rest))
    ∙ (words_after_lead s (w ++ (led (lead_of s) ws ++ rest))
    ∙ (words_front w (led (lead_of s) ws ++ rest) h.0 (led_edge s ws rest k)
    ∙ ap (λ x. w ∷ x) (words_led s ws rest h.1 k)))

-- the components at the end of a path
pub words_components : (cs : List (List ℕ)) → AllByRecursion Plain cs → words (led (codes "::") cs) ≡ cs
unfolding words
words_components cs h =
    ap words (sym (append-nil (led (codes "::") cs))) ∙ (words_led Component cs [] (plain_solids cs h) tt ∙ append-nil cs)

pub super_solid : Solid (codes "super")
super_solid = record { inner = (refl, (refl, (refl, (refl, (refl, tt))))); some = omega arith }

supers_solid : (n : ℕ) → AllByRecursion Solid (replicate n (codes "super"))
supers_solid zero = tt
supers_solid (suc n) = (super_solid, supers_solid n)

pub components_edge : (cs : List (List ℕ)) → Boundary (led (codes "::") cs)
components_edge cs = subst Boundary (append-nil (led (codes "::") cs)) (led_edge Component cs [] tt)

slashes_append : (xs ys : List ℕ) → slashes (xs ++ ys) ≡ slashes xs + slashes ys
unfolding slashes
slashes_append xs ys = sum_by-append (λ x. cond (eqb x 47) 1 0) xs ys

slashes_inner : (w : List ℕ) → Inner w → slashes w ≡ 0
unfolding slashes
slashes_inner [] h = refl
slashes_inner (b ∷ w) h =
    let e = slashes_inner w h.1 in
    let k = h.0 in
    let f : ◌≡◌ {A = ℕ} (cond (eqb b 47) 1 0) 0 = grind (arith, nat_tests) in
    sum_by-cons (λ x. cond (eqb x 47) 1 0) b w ∙ (omega (arith, e, f))

slashes_parts : (ws : List (List ℕ)) → AllByRecursion Solid ws → slashes (led (codes "/") ws) ≡ length ws
unfolding slashes
slashes_parts [] h = refl
slashes_parts (w ∷ ws) h =
    slashes_append (codes "/" ++ w) (led (codes "/") ws)
    ∙ (ap (λ x. x + slashes (led (codes "/") ws)) (sum_by-cons (λ x. cond (eqb x 47) 1 0) 47 w ∙ ap (λ x. 1 + x) (slashes_inner w h.0.inner))
    ∙ (let e = slashes_parts ws h.1 in omega (arith, e)))

slashes_components : (ws : List (List ℕ)) → AllByRecursion Solid ws → slashes (led (codes "::") ws) ≡ 0
unfolding slashes
slashes_components [] h = refl
slashes_components (w ∷ ws) h =
    let e = slashes_components ws h.1 in
    let f = slashes_inner w h.0.inner in
    slashes_append (codes "::" ++ w) (led (codes "::") ws) ∙ (let g = slashes_append (codes "::") w in omega (arith, e, f, g))

-- a plain name is none of the words that origins are written with
pub record Free (w : List ℕ) : Type 0 where
  pub package' : bytes_eq w (codes "package") ≡ false
  pub self' : bytes_eq w (codes "self") ≡ false
  pub super' : bytes_eq w (codes "super") ≡ false
  pub import' : bytes_eq w (codes "import") ≡ false

pub plain_is_free : (w : List ℕ) → Plain w → Free w
unfolding reserved
plain_is_free w h =
    let a = or_parts (bytes_eq w (codes "package")) _ (plain_free w h) in
    let b = or_parts (bytes_eq w (codes "self")) _ a.1 in
    let d = or_parts (bytes_eq w (codes "super")) (bytes_eq w (codes "import")) b.1 in
    record { package' = a.0; self' = b.0; super' = d.0; import' = d.1 }

supers_end : (n : ℕ) (cs : List (List ℕ)) → AllByRecursion Plain cs → after_super n cs ≡ record { origin = relative n; components = cs }
supers_end n [] h = refl
supers_end n (c ∷ cs) h = let e = (plain_is_free c h.0).super' in rw e

supers_count : (m n : ℕ) (cs : List (List ℕ)) → AllByRecursion Plain cs → after_super m (replicate n (codes "super") ++ cs) ≡ record { origin = relative (n + m); components = cs }
supers_count m zero cs h = supers_end m cs h ∙ ap (λ k. record { origin = relative k; components = cs }) (sym (zero-add m))
supers_count m (suc n) cs h =
    supers_count (suc m) n cs h ∙ ap (λ k. record { origin = relative k; components = cs }) (let e : n + suc m ≡ suc n + m = omega arith in e)

of_part : (n : ℕ) (w : List ℕ) (ws : List (List ℕ)) → Free w → of_words n (w ∷ ws) ≡ record { origin = packaged w (take n ws); components = drop n ws }
of_part n w ws f = let a = f.package' in let b = f.self' in let d = f.super' in rw (a, b, d)

-- the words of a printed path
words_shown : (o : Origin) (cs : List (List ℕ)) → PlainOrigin o → AllByRecursion Plain cs → words (shown (record { origin = o; components = cs })) ≡ origin_words o ++ cs
unfolding shown
words_shown absolute cs ho hc =
    words_front (codes "package") (led (codes "::") cs) (record { inner = (refl, (refl, (refl, (refl, (refl, (refl, (refl, tt))))))); some = omega arith }) (components_edge cs)
    ∙ ap (λ x. codes "package" ∷ x) (words_components cs hc)
words_shown (relative zero) cs ho hc =
    words_front (codes "self") (led (codes "::") cs) (record { inner = (refl, (refl, (refl, (refl, tt)))); some = omega arith }) (components_edge cs)
    ∙ ap (λ x. codes "self" ∷ x) (words_components cs hc)
words_shown (relative (suc n)) cs ho hc =
    let more = led (codes "::") (replicate n (codes "super")) in
    ap words (append_assoc (codes "super") more (led (codes "::") cs))
    ∙ (words_front (codes "super") (more ++ led (codes "::") cs) super_solid (led_edge Super (replicate n (codes "super")) _ (components_edge cs))
    ∙ ap (λ x. codes "super" ∷ x) (words_led Super (replicate n (codes "super")) _ (supers_solid n) (components_edge cs) ∙ ap (λ x. replicate n (codes "super") ++ x) (words_components cs hc)))
words_shown (packaged part more) cs ho hc =
    ap words (append_assoc part (led (codes "/") more) (led (codes "::") cs))
    ∙ (words_front part (led (codes "/") more ++ led (codes "::") cs) (plain_solid part ho.0) (led_edge Part more _ (components_edge cs))
    ∙ ap (λ x. part ∷ x) (words_led Part more _ (plain_solids more ho.1) (components_edge cs) ∙ ap (λ x. more ++ x) (words_components cs hc)))

-- the slashes of a printed path part its package's name
slashes_shown : (part : List ℕ) (more cs : List (List ℕ)) → Plain part → AllByRecursion Plain more → AllByRecursion Plain cs
    → slashes (shown (record { origin = packaged part more; components = cs })) ≡ length more
unfolding shown
slashes_shown part more cs hp hm hc =
    slashes_append (part ++ led (codes "/") more) (led (codes "::") cs)
    ∙ (let a = slashes_append part (led (codes "/") more) in
    let b = slashes_inner part (plain_inner part hp) in
    let d = slashes_parts more (plain_solids more hm) in
    let e = slashes_components cs (plain_solids cs hc) in
    omega (arith, a, b, d, e))

-- what is printed is read back
pub path_back : (p : Path) → PlainOrigin p.origin → AllByRecursion Plain p.components → path_of (shown p) ≡ p
unfolding path_of
path_back p ho hc = by_origin p.origin p.components ho hc
  where
    by_origin : (o : Origin) (cs : List (List ℕ)) → PlainOrigin o → AllByRecursion Plain cs → path_of (shown (record { origin = o; components = cs })) ≡ record { origin = o; components = cs }
    by_origin absolute cs ho hc = ap (of_words _) (words_shown absolute cs ho hc)
    by_origin (relative zero) cs ho hc = ap (of_words _) (words_shown (relative zero) cs ho hc)
    by_origin (relative (suc n)) cs ho hc =
        ap (of_words _) (words_shown (relative (suc n)) cs ho hc)
        ∙ (supers_count 1 n cs hc ∙ ap (λ k. record { origin = relative k; components = cs }) (let e : n + 1 ≡ suc n = omega arith in e))
    by_origin (packaged part more) cs ho hc =
        ap (λ n. of_words n (words (shown (record { origin = packaged part more; components = cs })))) (slashes_shown part more cs ho.0 ho.1 hc)
        ∙ (ap (of_words (length more)) (words_shown (packaged part more) cs ho hc)
        ∙ (of_part (length more) part (more ++ cs) (plain_is_free part ho.0)
        ∙ (let t = take_at more cs (length more) refl in
        let d = drop_at more cs (length more) refl in
        rw (t, d))))

pub all_plain_decides : (ws : List (List ℕ)) → Decides (all_plain ws) (AllByRecursion Plain ws)
all_plain_decides = Decides-by_and plain Plain all_plain (λ w. ((λ e. e), (λ e. e))) refl (λ _ _. refl)

plain_origin_decides : (o : Origin) → Decides (plain_origin o) (PlainOrigin o)
plain_origin_decides absolute = ((λ _. tt), (λ _. refl))
plain_origin_decides (relative n) = ((λ _. tt), (λ _. refl))
plain_origin_decides (packaged part more) =
    let d = all_plain_decides more in (
      (λ e. let p = and_parts (plain part) (all_plain more) e in (p.0, d.0 p.1)),
      (λ h. and_from (plain part) (all_plain more) h.0 (d.1 h.1)),
    )

-- the test for a path, both ways
pub path_from_test : (bs : List ℕ) → is_path_text bs ≡ true → Sound (path_of bs) × (shown (path_of bs) ≡ bs)
unfolding is_path_text
path_from_test bs e =
    let a = and_parts (bytes_eq (shown (path_of bs)) bs) _ e in
    let b = and_parts (plain_origin (path_of bs).origin) _ a.1 in
    let d = and_parts (all_plain (path_of bs).components) (leb (length bs) 255) b.1 in
    let s = (bytes_eq-Decides (shown (path_of bs)) bs).0 a.0 in
    let l = leb-true (length bs) 255 d.1 in (
      record {
        origin = (plain_origin_decides (path_of bs).origin).0 b.0;
        components = (all_plain_decides (path_of bs).components).0 d.0;
        short = (let k = ap length s in omega (arith, k));
      },
      s,
    )

pub test_from_path : (p : Path) → Sound p → is_path_text (shown p) ≡ true
unfolding is_path_text
test_from_path p h =
    let e = path_back p h.origin h.components in
    and_from _ _ ((bytes_eq-Decides _ _).1 (ap shown e))
    (and_from _ _ ((plain_origin_decides _).1 (subst (λ q. PlainOrigin q.origin) (sym e) h.origin))
    (and_from _ _ ((all_plain_decides _).1 (subst (λ q. AllByRecursion Plain q.components) (sym e) h.components)) (le-leb (length (shown p)) 255 h.short)))

pub is_path_decides : (bs : List ℕ) → Decides (is_path_text bs) (IsPath bs)
is_path_decides bs = (
  (λ e. let p = path_from_test bs e in record { path = path_of bs; sound = p.0; printed = p.1 }),
  (λ h. subst (λ x. is_path_text x ≡ true) h.printed (test_from_path h.path h.sound)),
)

-- the words of a path's text
pub words_of_path : (bs : List ℕ) → is_path_text bs ≡ true → words bs ≡ path_words (path_of bs)
words_of_path bs valid =
    let p = path_from_test bs valid in
    ap words (sym p.1) ∙ words_shown (path_of bs).origin (path_of bs).components p.0.origin p.0.components
