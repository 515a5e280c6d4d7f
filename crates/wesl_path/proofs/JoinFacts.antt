-- Joined and extended paths, as they are written.
use Rattle.std.proofs.Common.{◌≡◌, ℕ, ◌-◌, ◌<◌, ◌≤◌, true, List, [], ◌∷◌, ◌++◌, length, take, drop, Result, Ok, Err, MatchResult, codes, sym, refl, ap, ◌∙◌, subst, inl, inr, arith}
use Rattle.std.specs.List.{AllByRecursion}
use Rattle.std.proofs.ByRecursion.{All-append, All-take}
use Rattle.std.proofs.lemmas.List.{append_assoc, append-nil, length-append, length-drop, take-append-drop, take_at}
use Rattle.std.proofs.lemmas.Bool.{cases_lt}
use Rattle.std.proofs.lemmas.Grind.{flat_map-append}
use Rattle.wesl_path.specs.Name.{Plain}
use Rattle.wesl_path.specs.Path.{Origin, absolute, relative, packaged, Path, led, shown_origin, shown, PlainOrigin, without_last_names, within, joined_from, join_path, extended, path_of, is_path_text}
use Rattle.wesl_path.specs.Words.{Passing}
use Rattle.wesl_path.specs.Heads.{kind_of, HeadOf}
use Rattle.wesl_path.specs.Joins.{Given, read_from}
use Rattle.wesl_path.specs.Texts.{path_text, path_value, components_text, components_value, name_text}
use Rattle.wesl_path.specs.declared.components.Components.{Components}
use Rattle.wesl_path.specs.declared.module_path.ModulePath.{ModulePath}
use Rattle.wesl_path.specs.declared.name.PlainName.{PlainName}
use Rattle.wesl_path.specs.declared.words.Step.TheVariants.{Component}
use Rattle.wesl_path.specs.declared.origin.PathOrigin.TheVariants.{Absolute, Relative, Package}
use Rattle.wesl_path.specs.declared.origin.Head.{Head}
use Rattle.wesl_path.specs.declared.fault.PathFault.{PathFault}
use Rattle.wesl_path.specs.declared.fault.PathFault.TheVariants.{Long}
use Rattle.wesl_path.proofs.WordFacts.{led_all}
use Rattle.wesl_path.proofs.PathFacts.{path_back, path_from_test, test_from_path}
use Rattle.wesl_path.proofs.PassedFacts.{own_prefix}
use Rattle.wesl_path.proofs.ComponentFacts.{components_from_test}

-- bytes that are a plain path's, whatever their length
pub record Made (p : Path) (bs : List ℕ) : Type 0 where
  pub origin : PlainOrigin p.origin
  pub components : AllByRecursion Plain p.components
  pub text : bs ≡ shown p

-- what is then known of a path that is written so, or is too long
pub made_path : (p : Path) (bs : List ℕ) → Made p bs → length bs ≤ 255 → is_path_text bs ≡ true
made_path p bs m l =
    let e = m.text in
    subst (λ x. is_path_text x ≡ true) (sym e) (test_from_path p (record { origin = m.origin; components = m.components; short = (let k = ap length e in omega (arith, k)) }))

pub made_value : (p : Path) (bs : List ℕ) (r : ModulePath) → Made p bs → path_text r ≡ bs → path_value r ≡ p
made_value p bs r m e = ap path_of (e ∙ m.text) ∙ path_back p m.origin m.components

pub made_long : (p : Path) (bs : List ℕ) → Made p bs → 255 < length bs → 255 < length (shown p)
made_long p bs m l = let k = ap length m.text in omega (arith, k)

-- what is then answered for it
pub made_given : (p : Path) (bs : List ℕ) (r : Result ModulePath PathFault) → Made p bs
    → MatchResult r (λ m. path_text m ≡ bs) (λ e. (e ≡ Long) × (255 < length bs)) → Given p r
made_given p bs (Ok r) m h = made_value p bs r m h
made_given p bs (Err e) m h = subst (λ e. Given p (Err e)) (sym h.0) (made_long p bs m h.1)

-- components at the end of a path's text
extended_made : (base : List ℕ) (cs : List (List ℕ)) → is_path_text base ≡ true → AllByRecursion Plain cs → Made (extended (path_of base) cs) (base ++ led (codes "::") cs)
unfolding shown
extended_made base cs valid h =
    let p = path_of base in
    let t = path_from_test base valid in
    record {
      origin = t.0.origin;
      components = All-append Plain p.components cs t.0.components h;
      text =
          ap (λ x. x ++ led (codes "::") cs) (sym t.1)
          ∙ (append_assoc (shown_origin p.origin) (led (codes "::") p.components) (led (codes "::") cs)
          ∙ ap (λ x. shown_origin p.origin ++ x) (sym (flat_map-append (λ w. codes "::" ++ w) p.components cs)));
    }

pub pushed_made : (self : ModulePath) (item : PlainName) (a b : List ℕ) → a ≡ path_text self → b ≡ name_text item
    → Made (extended (path_value self) (name_text item ∷ [])) (a ++ (codes "::" ++ b))
pushed_made self item a b e f =
    subst (Made (extended (path_value self) (name_text item ∷ []))) (ap (λ x. path_text self ++ x) (append-nil (codes "::" ++ name_text item)) ∙ cc)
    (extended_made (path_text self) (name_text item ∷ []) self.valid (item.ok, tt))

pub joined_made : (self : ModulePath) (suffix : Components) (a b : List ℕ) → a ≡ path_text self → b ≡ components_text suffix
    → Made (extended (path_value self) (components_value suffix)) (a ++ (codes "::" ++ b))
joined_made self suffix a b e f =
    let t = components_from_test (components_text suffix) suffix.valid in
    subst (Made (extended (path_value self) (components_value suffix))) (ap (λ x. path_text self ++ x) t.1 ∙ cc)
    (extended_made (path_text self) (components_value suffix) self.valid t.0)

-- Where a path ends without its last components.

module _ (text : List ℕ) (h : Head) (valid : is_path_text text ≡ true) (head : HeadOf text h) where
  -- the text up to the end of the words that were passed
  passed_front : (most count end : ℕ) (p : Passing Component most text h.end count end) → take end text ≡ shown_origin (path_of text).origin ++ led (codes "::") p.ws
  passed_front most count end p =
      let o = shown_origin (path_of text).origin in
      let f = o ++ led (codes "::") p.ws in
      let whole : text ≡ f ++ drop end text =
      sym (take-append-drop h.end text)
      ∙ (ap (λ x. x ++ drop h.end text) head.front ∙ (ap (λ x. o ++ x) p.reads ∙ sym (append_assoc o (led (codes "::") p.ws) (drop end text)))) in
      let w = p.within in
      let long : length f ≡ end = (let a = ap length whole ∙ length-append f (drop end text) in let b = length-drop end text in omega (arith, a, b)) in
      ap (take end) whole ∙ take_at f (drop end text) end long

  pub cut_front : (n most count end : ℕ) (p : Passing Component most text h.end count end) → most ≡ length (path_of text).components - n
      → take end text ≡ shown_origin (path_of text).origin ++ led (codes "::") (without_last_names n (path_of text).components)
  cut_front n most count end p e =
      let cs = (path_of text).components in
      let pre = own_prefix text h valid head most count end p in
      let many = p.many in
      let few = p.few in
      let full : length p.ws ≡ length cs - n =
      elim (cases_lt count most) [
        | inl l ↦ (let a = led_all Component p.ws cs (drop end text) [] tt (p.stops l) (path_from_test text valid).0.components pre in let b = ap length a.0 in omega (arith, b))
        | inr l ↦ omega arith
      ] in
      passed_front most count end p ∙ ap (λ x. shown_origin (path_of text).origin ++ led (codes "::") x) (pre.same ∙ ap (λ k. take k cs) full)

-- The kinds of joins.

kind_absolute : (o : Origin) → Absolute ≡ kind_of o → o ≡ absolute
kind_absolute absolute e = refl
kind_absolute (relative n) e = absurd (let z : ◌≡◌ {A = ℕ} 0 1 = cc in omega arith)
kind_absolute (packaged part more) e = absurd (let z : ◌≡◌ {A = ℕ} 0 1 = cc in omega arith)

kind_relative : (o : Origin) (n : ℕ) → Relative n ≡ kind_of o → o ≡ relative n
kind_relative absolute n e = absurd (let z : ◌≡◌ {A = ℕ} 0 1 = cc in omega arith)
kind_relative (relative m) n e = cc
kind_relative (packaged part more) n e = absurd (let z : ◌≡◌ {A = ℕ} 0 1 = cc in omega arith)

kind_package : (o : Origin) (n : ℕ) → Package n ≡ kind_of o → (part : List ℕ) × (more : List (List ℕ)) × (o ≡ packaged part more)
kind_package absolute n e = absurd (let z : ◌≡◌ {A = ℕ} 0 1 = cc in omega arith)
kind_package (relative m) n e = absurd (let z : ◌≡◌ {A = ℕ} 0 1 = cc in omega arith)
kind_package (packaged part more) n e = (part, more, refl)

-- a package read from a module, by the module's origin
read_from_shown : (outer inner part : List ℕ) (more cs : List (List ℕ)) → inner ≡ (part ++ led (codes "/") more) ++ led (codes "::") cs → (o : Origin) → outer ≡ shown_origin o
    → read_from (kind_of o) outer inner ≡ shown (record { origin = within o part more; components = cs })
unfolding shown
read_from_shown outer inner part more cs e absolute f = e
read_from_shown outer inner part more cs e (relative n) f = e
read_from_shown outer inner part more cs e (packaged part₀ more₀) f =
    let slash = codes "/" in
    let back = led (codes "::") cs in
    let flat = part₀ ++ (led slash more₀ ++ (slash ++ (part ++ (led slash more ++ back)))) in
    let left : (part₀ ++ led slash more₀) ++ (slash ++ ((part ++ led slash more) ++ back)) ≡ flat = simp append_assoc in
    let right : (part₀ ++ (led slash more₀ ++ ((slash ++ part) ++ led slash more))) ++ back ≡ flat = simp append_assoc in
    ap (λ x. x ++ (slash ++ inner)) f
    ∙ (ap (λ x. (part₀ ++ led slash more₀) ++ (slash ++ x)) e
    ∙ (left ∙ sym (ap (λ x. (part₀ ++ x) ++ back) (flat_map-append (λ w. slash ++ w) more₀ (part ∷ more)) ∙ right)))

module _ (base suffix : List ℕ) (h t : Head) (suffix-valid : is_path_text suffix ≡ true) (head : HeadOf base h) (tail : HeadOf suffix t) where
  pub seam_absolute : t.origin ≡ Absolute → take h.end base ++ drop t.end suffix ≡ shown (join_path (path_of base) (path_of suffix))
  unfolding shown
  seam_absolute e =
      let p = path_of base in
      let q = path_of suffix in
      ap (λ x. x ++ drop t.end suffix) head.front
      ∙ (ap (λ x. shown_origin p.origin ++ x) tail.back ∙ sym (ap (λ o. shown (joined_from p o q.components)) (kind_absolute q.origin (sym e ∙ tail.kind))))

  pub seam_relative : (n cut : ℕ) → t.origin ≡ Relative n → take cut base ≡ shown_origin (path_of base).origin ++ led (codes "::") (without_last_names n (path_of base).components)
      → take cut base ++ drop t.end suffix ≡ shown (join_path (path_of base) (path_of suffix))
  unfolding shown
  seam_relative n cut e f =
      let p = path_of base in
      let q = path_of suffix in
      let kept = without_last_names n p.components in
      ap (λ x. x ++ drop t.end suffix) f
      ∙ (append_assoc (shown_origin p.origin) (led (codes "::") kept) (drop t.end suffix)
      ∙ (ap (λ x. shown_origin p.origin ++ (led (codes "::") kept ++ x)) tail.back
      ∙ (ap (λ x. shown_origin p.origin ++ x) (sym (flat_map-append (λ w. codes "::" ++ w) kept q.components))
      ∙ sym (ap (λ o. shown (joined_from p o q.components)) (kind_relative q.origin n (sym e ∙ tail.kind))))))

  pub seam_package : (n : ℕ) → t.origin ≡ Package n → read_from h.origin (take h.end base) suffix ≡ shown (join_path (path_of base) (path_of suffix))
  unfolding shown
  seam_package n e =
      let p = path_of base in
      let q = path_of suffix in
      let k = kind_package q.origin n (sym e ∙ tail.kind) in
      let whole : suffix ≡ shown_origin (packaged k.0 k.1) ++ led (codes "::") q.components =
      sym (path_from_test suffix suffix-valid).1 ∙ ap (λ o. shown_origin o ++ led (codes "::") q.components) k.2 in
      ap (λ o. read_from o (take h.end base) suffix) head.kind
      ∙ (read_from_shown (take h.end base) suffix k.0 k.1 q.components whole p.origin head.front
      ∙ sym (ap (λ o. shown (joined_from p o q.components)) k.2))

-- joined paths are plain where both were
within_plain : (o : Origin) (part : List ℕ) (more : List (List ℕ)) → PlainOrigin o → Plain part → AllByRecursion Plain more → PlainOrigin (within o part more)
within_plain absolute part more h hp hm = (hp, hm)
within_plain (relative n) part more h hp hm = (hp, hm)
within_plain (packaged part₀ more₀) part more h hp hm = (h.0, All-append Plain more₀ (part ∷ more) h.1 (hp, hm))

join_plain : (p : Path) (o : Origin) (cs : List (List ℕ)) → PlainOrigin p.origin → AllByRecursion Plain p.components → PlainOrigin o → AllByRecursion Plain cs
    → PlainOrigin (joined_from p o cs).origin × AllByRecursion Plain (joined_from p o cs).components
join_plain p absolute cs hp hc ho h = (hp, h)
join_plain p (relative n) cs hp hc ho h = (hp, All-append Plain (without_last_names n p.components) cs (All-take Plain (length p.components - n) p.components hc) h)
join_plain p (packaged part more) cs hp hc ho h = (within_plain p.origin part more hp ho.0 ho.1, h)

pub sewn_made : (base suffix : ModulePath) (bs : List ℕ) → bs ≡ shown (join_path (path_value base) (path_value suffix)) → Made (join_path (path_value base) (path_value suffix)) bs
sewn_made base suffix bs e =
    let p = (path_from_test (path_text base) base.valid).0 in
    let q = (path_from_test (path_text suffix) suffix.valid).0 in
    let j = join_plain (path_value base) (path_value suffix).origin (path_value suffix).components p.origin p.components q.origin q.components in
    record { origin = j.0; components = j.1; text = e }
