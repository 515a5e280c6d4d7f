-- The components that are passed after a path's origin are the path's.
use Rattle.std.proofs.Common.{◌≡◌, ℕ, ◌+◌, ◌-◌, ◌<◌, ◌≤◌, Bool, true, eqb, List, [], ◌++◌, length, take, drop, Option, Some, None, MatchOption, codes, Decides, sym, refl, ap, ◌∙◌, subst, arith}
use Rattle.std.specs.List.{AllByRecursion}
use Rattle.std.proofs.lemmas.List.{append-nil, length-append, length-drop, take_at, drop_all}
use Rattle.std.specs.Str.{bytes_eq}
use Rattle.std.proofs.lemmas.Slice.Eq.{bytes_eq-Decides}
use Rattle.std.proofs.lemmas.Bool.Decides.{Decides-at, Decides-like}
use Rattle.std.proofs.lemmas.Bool.{eqb-true, eq-eqb}
use Rattle.wesl_path.specs.Name.{Plain}
use Rattle.wesl_path.specs.Path.{Path, led, shown_origin, shown, PlainOrigin, IsPath, path_of, is_path_text}
use Rattle.wesl_path.specs.Words.{Boundary, NotLed, Passing}
use Rattle.wesl_path.specs.Heads.{kind_of, Headed, Headless, HeadOf}
use Rattle.wesl_path.specs.Texts.{path_text, SameAnswer}
use Rattle.wesl_path.specs.declared.module_path.ModulePath.{ModulePath}
use Rattle.wesl_path.specs.declared.words.Step.TheVariants.{Component}
use Rattle.wesl_path.specs.declared.origin.Head.{Head}
use Rattle.wesl_path.proofs.PathFacts.{components_edge, path_from_test}
use Rattle.wesl_path.proofs.WordFacts.{Prefix, led_prefix, led_all}

pub nothing_led : NotLed Component []
nothing_led w rest f b e = let z : ◌≡◌ {A = ℕ} 0 1 = cc in omega arith

module _ (text : List ℕ) (h : Head) (headed : Headed text h) (count end : ℕ) (passing : Passing Component (count + 1) text h.end count end) where
  pub passed_prefix : (p : Path) → PlainOrigin p.origin → AllByRecursion Plain p.components → text ≡ shown p → Prefix Component passing.ws p.components (drop end text) []
  passed_prefix p ho hc e =
      led_prefix Component passing.ws p.components (drop end text) [] passing.fits hc passing.edge tt nothing_led
      (sym passing.reads ∙ ((headed.only p ho hc e).1 ∙ sym (append-nil (led (codes "::") p.components))))

  pub passed_all : (p : Path) → PlainOrigin p.origin → AllByRecursion Plain p.components → text ≡ shown p → (passing.ws ≡ p.components) × (drop end text ≡ [])
  passed_all p ho hc e = led_all Component passing.ws p.components (drop end text) [] tt (passing.stops (omega arith)) hc (passed_prefix p ho hc e)

  -- a text is a path where its words go on to its end
  pub passed_decides : length text ≤ 255 → Decides (eqb end (length text)) (IsPath text)
  unfolding shown
  passed_decides short = (
    (λ e. let k = eqb-true end (length text) e in
        let none : drop end text ≡ [] = drop_all end text (omega arith) in
        let whole : shown (record { origin = headed.found; components = passing.ws }) ≡ text =
        sym (headed.reads ∙ (ap (λ x. shown_origin headed.found ++ x) (passing.reads ∙ (ap (λ x. led (codes "::") passing.ws ++ x) none ∙ append-nil (led (codes "::") passing.ws))))) in
        record {
          path = record { origin = headed.found; components = passing.ws };
          sound = record { origin = headed.plain; components = passing.fits; short = (let l = ap length whole in omega (arith, l)) };
          printed = whole;
        }),
    (λ i. let p = i.path in
        let s = i.sound in
        let none = (passed_all p s.origin s.components (sym i.printed)).1 in
        let l : length text - end ≡ 0 = sym (length-drop end text) ∙ ap length none in
        let w = passing.within in
        eq-eqb end (length text) (omega arith)),
  )

-- a path's own head
pub own_head : (text : List ℕ) (h : Head) → is_path_text text ≡ true → Headed text h → HeadOf text h
unfolding shown
own_head text h valid headed =
    let t = path_from_test text valid in
    let p = path_of text in
    let o = headed.only p t.0.origin t.0.components (sym t.1) in
    let w = headed.within in
    let long : length (shown_origin headed.found) ≡ h.end =
    (let l = ap length headed.reads ∙ length-append (shown_origin headed.found) (drop h.end text) in
    let k = length-drop h.end text in
    omega (arith, l, k)) in
    record {
      kind = headed.kind ∙ ap kind_of (sym o.0);
      front = ap (take h.end) headed.reads ∙ (take_at (shown_origin headed.found) (drop h.end text) h.end long ∙ ap shown_origin (sym o.0));
      back = o.1;
      within = w;
    }

pub not_headless : (text : List ℕ) → is_path_text text ≡ true → Headless text → ⊥
not_headless text valid none = let t = path_from_test text valid in none (path_of text) t.0.origin t.0.components (sym t.1)

-- so a path's origin is found
pub head_found : (text : List ℕ) (r : Option Head) → is_path_text text ≡ true → MatchOption r (Headless text) (λ h. Headed text h) → (h : Head) × (r ≡ Some h) × HeadOf text h
head_found text None valid m = absurd (not_headless text valid m)
head_found text (Some h) valid m = (h, refl, own_head text h valid m)

-- the components after a path's own head, counted or cut
module _ (text : List ℕ) (h : Head) (valid : is_path_text text ≡ true) (head : HeadOf text h) (most count end : ℕ) (passing : Passing Component most text h.end count end) where
  pub own_prefix : Prefix Component passing.ws (path_of text).components (drop end text) []
  own_prefix =
      let t = path_from_test text valid in
      led_prefix Component passing.ws (path_of text).components (drop end text) [] passing.fits t.0.components passing.edge tt nothing_led
      (sym passing.reads ∙ (head.back ∙ sym (append-nil (led (codes "::") (path_of text).components))))

  pub own_count : count < most → count ≡ length (path_of text).components
  own_count few =
      let t = path_from_test text valid in
      let a = led_all Component passing.ws (path_of text).components (drop end text) [] tt (passing.stops few) t.0.components own_prefix in
      passing.many ∙ ap length a.0

-- equal bytes are equal paths
pub same_answer : (a b : ModulePath) (r : Bool) → r ≡ bytes_eq (path_text a) (path_text b) → SameAnswer a b r
same_answer a b r e =
    let d = Decides-at r (bytes_eq (path_text a) (path_text b)) e (bytes_eq-Decides (path_text a) (path_text b)) in
    let printed-a = (path_from_test (path_text a) a.valid).1 in
    let printed-b = (path_from_test (path_text b) b.valid).1 in
    (d, Decides-like r (λ s. ap path_of s) (λ s. sym printed-a ∙ (ap shown s ∙ printed-b)) d)

-- a word may end where an origin does
pub own_edge : (text : List ℕ) (h : Head) → HeadOf text h → Boundary (drop h.end text)
own_edge text h head = subst Boundary (sym head.back) (components_edge (path_of text).components)
