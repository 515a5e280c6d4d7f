-- The origin of a path is told by its first word and by the words that follow.
use Rattle.std.proofs.Common.{◌≡◌, ℕ, zero, suc, ◌+◌, ◌≤◌, true, false, List, [], ◌∷◌, ◌++◌, length, take, drop, replicate, codes, sym, refl, ap, ◌∙◌, subst, one-add, arith}
use Rattle.std.specs.List.{AllByRecursion}
use Rattle.std.specs.Str.{bytes_eq}
use Rattle.std.proofs.lemmas.List.{append_assoc, append_cancel_left, length-replicate, drop_at}
use Rattle.std.proofs.lemmas.Bool.{both_ways}
use Rattle.std.proofs.lemmas.Slice.Eq.{bytes_eq-Decides}
use Rattle.wesl_path.specs.Name.{plain, Plain}
use Rattle.wesl_path.specs.Path.{Origin, absolute, relative, packaged, Path, led, shown_origin, shown, PlainOrigin}
use Rattle.wesl_path.specs.Words.{first_word, after_word, Boundary, Fits, NotLed, Passing}
use Rattle.wesl_path.specs.Heads.{kind_of, Headed, Headless}
use Rattle.wesl_path.specs.declared.words.Step.TheVariants.{Part, Super}
use Rattle.wesl_path.specs.declared.origin.PathOrigin.TheVariants.{Absolute, Relative, Package}
use Rattle.wesl_path.specs.declared.origin.Head.{Head}
use Rattle.wesl_path.proofs.WordFacts.{Inner, plain_inner, first_is, after_is, first_taken, word_parts, after_edge, led_edge, led_prefix, led_all, word_within}
use Rattle.wesl_path.proofs.PathFacts.{super_solid, components_edge, plain_is_free}

-- an origin's first word, and what follows that
abbrev first_of : Origin → List ℕ
first_of absolute = codes "package"
first_of (relative zero) = codes "self"
first_of (relative (suc n)) = codes "super"
first_of (packaged part more) = part

abbrev after_of : Origin → List ℕ
after_of absolute = []
after_of (relative zero) = []
after_of (relative (suc n)) = led (codes "::") (replicate n (codes "super"))
after_of (packaged part more) = led (codes "/") more

origin_parts : (o : Origin) → shown_origin o ≡ first_of o ++ after_of o
origin_parts absolute = refl
origin_parts (relative zero) = refl
origin_parts (relative (suc n)) = refl
origin_parts (packaged part more) = refl

first_inner : (o : Origin) → PlainOrigin o → Inner (first_of o)
first_inner absolute h = (refl, (refl, (refl, (refl, (refl, (refl, (refl, tt)))))))
first_inner (relative zero) h = (refl, (refl, (refl, (refl, tt))))
first_inner (relative (suc n)) h = super_solid.inner
first_inner (packaged part more) h = plain_inner part h.0

after_of_edge : (o : Origin) (rest : List ℕ) → Boundary rest → Boundary (after_of o ++ rest)
after_of_edge absolute rest h = h
after_of_edge (relative zero) rest h = h
after_of_edge (relative (suc n)) rest h = led_edge Super (replicate n (codes "super")) rest h
after_of_edge (packaged part more) rest h = led_edge Part more rest h

shown_parts : (p : Path) → shown p ≡ first_of p.origin ++ (after_of p.origin ++ led (codes "::") p.components)
unfolding shown
shown_parts p =
    ap (λ x. x ++ led (codes "::") p.components) (origin_parts p.origin) ∙ append_assoc (first_of p.origin) (after_of p.origin) (led (codes "::") p.components)

shown_first : (p : Path) → PlainOrigin p.origin → first_word (shown p) ≡ first_of p.origin
shown_first p h = ap first_word (shown_parts p) ∙ first_is _ _ (first_inner p.origin h) (after_of_edge p.origin _ (components_edge p.components))

shown_after : (p : Path) → PlainOrigin p.origin → after_word (shown p) ≡ after_of p.origin ++ led (codes "::") p.components
shown_after p h = ap after_word (shown_parts p) ∙ after_is _ _ (first_inner p.origin h) (after_of_edge p.origin _ (components_edge p.components))

-- no component is `super`, and none follows a slash
supers_stop : (cs : List (List ℕ)) → AllByRecursion Plain cs → NotLed Super (led (codes "::") cs)
supers_stop [] h w rest f b e = let z : ◌≡◌ {A = ℕ} 0 1 = cc in omega arith
supers_stop (c ∷ cs) h w rest f b e =
    let g : c ++ led (codes "::") cs ≡ w ++ rest = append_cancel_left (codes "::") (c ++ led (codes "::") cs) (w ++ rest) (sym (append_assoc (codes "::") c (led (codes "::") cs)) ∙ e) in
    let s : w ≡ codes "super" = (bytes_eq-Decides w (codes "super")).0 f in
    let i : Inner w = subst Inner (sym s) super_solid.inner in
    let k : c ≡ w = sym (first_is c _ (plain_inner c h.0) (components_edge cs)) ∙ (ap first_word g ∙ first_is w rest i b) in
    both_ways (bytes_eq c (codes "super")) (plain_is_free c h.0).super' ((bytes_eq-Decides c (codes "super")).1 (k ∙ s))

parts_stop : (cs : List (List ℕ)) → NotLed Part (led (codes "::") cs)
parts_stop [] w rest f b e = let z : ◌≡◌ {A = ℕ} 0 1 = cc in omega arith
parts_stop (c ∷ cs) w rest f b e = let z : ◌≡◌ {A = ℕ} 58 47 = cc in omega arith

-- a plain name is no first word of another origin
free_not : (w v : List ℕ) → bytes_eq w v ≡ false → w ≡ v → ⊥
free_not w v f e = both_ways (bytes_eq w v) f ((bytes_eq-Decides w v).1 e)

abbrev Only : Origin → List ℕ → Type 0
Only o rest = (q : Origin) (cs : List (List ℕ)) → PlainOrigin q → AllByRecursion Plain cs → first_of q ≡ first_of o → after_of q ++ led (codes "::") cs ≡ after_of o ++ rest → (q ≡ o) × (rest ≡ led (codes "::") cs)

clash : {X : Type 0} → ◌≡◌ {A = ℕ} 0 1 → X
clash e = absurd (omega arith)

only_absolute : (rest : List ℕ) → Only absolute rest
only_absolute rest absolute cs hq hc f e = (refl, sym e)
only_absolute rest (relative zero) cs hq hc f e = clash (cc)
only_absolute rest (relative (suc n)) cs hq hc f e = clash (cc)
only_absolute rest (packaged part more) cs hq hc f e = absurd (free_not part _ (plain_is_free part hq.0).package' f)

only_self : (rest : List ℕ) → Only (relative zero) rest
only_self rest absolute cs hq hc f e = clash (cc)
only_self rest (relative zero) cs hq hc f e = (refl, sym e)
only_self rest (relative (suc n)) cs hq hc f e = clash (cc)
only_self rest (packaged part more) cs hq hc f e = absurd (free_not part _ (plain_is_free part hq.0).self' f)

supers_fit : (n : ℕ) → AllByRecursion (Fits Super) (replicate n (codes "super"))
supers_fit zero = tt
supers_fit (suc n) = (refl, supers_fit n)

only_super : (n : ℕ) (rest : List ℕ) → Boundary rest → NotLed Super rest → Only (relative (suc n)) rest
only_super n rest hb stop absolute cs hq hc f e = clash (cc)
only_super n rest hb stop (relative zero) cs hq hc f e = clash (cc)
only_super n rest hb stop (relative (suc m)) cs hq hc f e =
    let p = led_prefix Super (replicate n (codes "super")) (replicate m (codes "super")) rest (led (codes "::") cs) (supers_fit n) (supers_fit m) hb (components_edge cs) (supers_stop cs hc) (sym e) in
    let a = led_all Super _ _ rest (led (codes "::") cs) (components_edge cs) stop (supers_fit m) p in
    let k : n ≡ m = sym (length-replicate n (codes "super")) ∙ (ap length a.0 ∙ length-replicate m (codes "super")) in
    (ap (λ x. relative (suc x)) (sym k), a.1)
only_super n rest hb stop (packaged part more) cs hq hc f e = absurd (free_not part _ (plain_is_free part hq.0).super' f)

only_parts : (part : List ℕ) (more : List (List ℕ)) (rest : List ℕ) → Plain part → AllByRecursion Plain more → Boundary rest → NotLed Part rest → Only (packaged part more) rest
only_parts part more rest hp hm hb stop absolute cs hq hc f e = absurd (free_not part _ (plain_is_free part hp).package' (sym f))
only_parts part more rest hp hm hb stop (relative zero) cs hq hc f e = absurd (free_not part _ (plain_is_free part hp).self' (sym f))
only_parts part more rest hp hm hb stop (relative (suc n)) cs hq hc f e = absurd (free_not part _ (plain_is_free part hp).super' (sym f))
only_parts part more rest hp hm hb stop (packaged part' more') cs hq hc f e =
    let p = led_prefix Part more more' rest (led (codes "::") cs) hm hq.1 hb (components_edge cs) (parts_stop cs) (sym e) in
    let a = led_all Part more more' rest (led (codes "::") cs) (components_edge cs) stop hq.1 p in
    let b = a.0 in
    (cc, a.1)

-- the front of a text by its first word's end
pub text_left : (text : List ℕ) (n : ℕ) → n ≡ 0 + length (first_word text) → drop n text ≡ after_word text
text_left text n e =
    ap (drop n) (sym (word_parts text)) ∙ drop_at (first_word text) (after_word text) n (let k : length (first_word text) ≡ n = omega (arith, e) in k)

-- a text of which the first word and what follows are an origin's
headed_at : (text : List ℕ) (h : Head) (o : Origin) → PlainOrigin o → h.origin ≡ kind_of o → first_word text ≡ first_of o → after_word text ≡ after_of o ++ drop h.end text
    → Boundary (drop h.end text) → h.end ≤ length text → Only o (drop h.end text) → Headed text h
headed_at text h o ho k f a b l only =
    record {
      found = o;
      plain = ho;
      kind = k;
      reads =
          sym (word_parts text)
          ∙ (ap (λ x. x ++ after_word text) f
          ∙ (ap (λ x. first_of o ++ x) a
          ∙ (sym (append_assoc (first_of o) (after_of o) (drop h.end text)) ∙ ap (λ x. x ++ drop h.end text) (sym (origin_parts o)))));
      edge = b;
      within = l;
      only = λ p hp hc e. only p.origin p.components hp hc (sym (shown_first p hp) ∙ (ap first_word (sym e) ∙ f)) (sym (shown_after p hp) ∙ (ap after_word (sym e) ∙ a));
    }

module _ (text : List ℕ) (n : ℕ) (long : n ≡ 0 + length (first_word text)) where
  word_is : (w : List ℕ) → bytes_eq (take n text) w ≡ true → first_word text ≡ w
  word_is w e = sym (first_taken text n long) ∙ (bytes_eq-Decides (take n text) w).0 e

  pub head_edge : Boundary (drop n text)
  head_edge = subst Boundary (sym (text_left text n long)) (after_edge text)

  end_within : n ≤ length text
  end_within = let k = word_within text in omega (arith, k)

  pub headed_package : bytes_eq (take n text) (codes "package") ≡ true → Headed text (record { origin = Absolute; end = n })
  headed_package e =
      headed_at text (record { origin = Absolute; end = n }) absolute tt refl (word_is _ e) (sym (text_left text n long)) head_edge end_within (only_absolute _)

  pub headed_self : bytes_eq (take n text) (codes "self") ≡ true → Headed text (record { origin = Relative 0; end = n })
  headed_self e =
      headed_at text (record { origin = Relative 0; end = n }) (relative zero) tt refl (word_is _ e) (sym (text_left text n long)) head_edge end_within (only_self _)

  pub headed_super : bytes_eq (take n text) (codes "super") ≡ true → (count end : ℕ) → Passing Super (count + 1) text n count end
      → Headed text (record { origin = Relative (1 + count); end = end })
  headed_super e count end p =
      let s = supers_are p.ws p.fits in
      let k = p.many in
      headed_at text (record { origin = Relative (1 + count); end = end }) (relative (suc (length p.ws))) tt (ap Relative (one-add count ∙ ap suc k)) (word_is _ e)
      (sym (text_left text n long) ∙ (p.reads ∙ ap (λ x. led (codes "::") x ++ drop end text) s)) p.edge p.within
      (only_super (length p.ws) (drop end text) p.edge (p.stops (omega arith)))
    where
      supers_are : (ws : List (List ℕ)) → AllByRecursion (Fits Super) ws → ws ≡ replicate (length ws) (codes "super")
      supers_are [] h = refl
      supers_are (w ∷ ws) h = let a = (bytes_eq-Decides w (codes "super")).0 h.0 in let b = supers_are ws h.1 in cc

  pub headed_parts : plain (take n text) ≡ true → (count end : ℕ) → Passing Part (count + 1) text n count end
      → Headed text (record { origin = Package (1 + count); end = end })
  headed_parts e count end p =
      let w = first_word text in
      let hp : Plain w = subst Plain (first_taken text n long) e in
      headed_at text (record { origin = Package (1 + count); end = end }) (packaged w p.ws) (hp, p.fits) (ap (λ x. Package (1 + x)) p.many) refl
      (sym (text_left text n long) ∙ p.reads) p.edge p.within (only_parts w p.ws (drop end text) hp p.fits p.edge (p.stops (omega arith)))

  pub headless_at : bytes_eq (take n text) (codes "package") ≡ false → bytes_eq (take n text) (codes "self") ≡ false
      → bytes_eq (take n text) (codes "super") ≡ false → plain (take n text) ≡ false → Headless text
  headless_at a b d e p hp hc k = no_origin p.origin hp (first_taken text n long ∙ (ap first_word k ∙ shown_first p hp))
    where
      no_origin : (o : Origin) → PlainOrigin o → take n text ≡ first_of o → ⊥
      no_origin absolute h f = free_not _ _ a f
      no_origin (relative zero) h f = free_not _ _ b f
      no_origin (relative (suc m)) h f = free_not _ _ d f
      no_origin (packaged part more) h f = both_ways (plain (take n text)) e (ap plain f ∙ h.0)
