-- Lines that lead a module, and the modules that they lead.
use Rattle.std.proofs.Common.{◌≡◌, ℕ, suc, ◌+◌, ◌-◌, ◌<◌, ◌≤◌, Bool, true, false, List, [], ◌∷◌, ◌++◌, length, take, drop, codes, Some, None, Option, is_some, slice_get, Bor, MatchOption, IfSome, IsSomeAnd, Decides, sym, refl, ap, ◌∙◌, subst, inl, inr, arith, length-append}
use Rattle.std.specs.Bool.{then_some}
use Rattle.std.specs.Iterator.Runs.{Run, YieldsRun, AllItems}
use Rattle.std.specs.Iterator.{Yields, YieldsFirstBy}
use Rattle.std.specs.Option.{option_map}
use Rattle.std.specs.Str.{bytes_eq}
use Rattle.std.proofs.lemmas.Iterator.{YieldsList}
use Rattle.std.proofs.lemmas.Iterator.Consumers.{YieldsList-from_shown}
use Rattle.std.specs.List.{find, slice_range, concat, FoldsTo}
use Rattle.std.proofs.lemmas.Slice.Eq.{bytes_eq-Decides}
use Rattle.std.proofs.lemmas.List.{take_all, take_at, drop_at, length_push, length-drop, append_cancel_left, append_cancel_right, append-nil, append_assoc, drop-drop}
use Rattle.std.proofs.lemmas.Bool.{and_parts, and_from, cases_Bool}
use Rattle.std.proofs.lemmas.Bool.Decides.{not_from_Decides}
use Rattle.wesl_path.specs.Path.{IsPath}
use Rattle.wesl_path.proofs.PathFacts.{is_path_decides}
use Rattle.wesl_resolve.specs.Sources.{Source, text_at}
use Rattle.wesl_resolve.specs.Lines.{lines, lines_left}
use Rattle.wesl_resolve.specs.Bundles.{lead, Leads, led_path, leads, body, led, modules, IsBody, Advances}
use Rattle.wesl_resolve.specs.declared.bundle.BundleModule.{BundleModule}
use Rattle.wesl_resolve.specs.declared.bundle.Modules.{Modules}
use Rattle.wesl_resolve.specs.declared.lines.Lines.{Lines}
use Rattle.wesl_resolve.proofs.LineFacts.{concat-lines, first_line_is}

-- the path can be read off the line
pub led_path_back : (p : List ℕ) → led_path (lead p) ≡ p
led_path_back p =
    let e : length (lead p) - 3 ≡ length p = let k = length_push p 10 in omega (arith, k) in
    ap (λ n. take n (p ++ 10 ∷ [])) e ∙ take_at p (10 ∷ []) (length p) refl

pub leads_decides : (l : List ℕ) → Decides (leads l) (Leads l)
unfolding leads
leads_decides l = (
  (λ h.
      let q = and_parts _ _ h in
      record {
        path = led_path l;
        valid = (is_path_decides (led_path l)).0 q.1;
        written = (bytes_eq-Decides l (lead (led_path l))).0 q.0;
      }),
  (λ h.
      let e : led_path l ≡ h.path = ap led_path h.written ∙ led_path_back h.path in
      and_from _ _
      ((bytes_eq-Decides l (lead (led_path l))).1 (h.written ∙ ap lead (sym e)))
      ((is_path_decides (led_path l)).1 (subst IsPath (sym e) h.valid))),
)

-- what stands after `M` and a tab, and before 0x0A
module _ (line rest : List ℕ) (front : line ≡ codes "M\t" ++ rest) where
  after_front : (h : Leads line) → rest ≡ h.path ++ 10 ∷ []
  after_front h = append_cancel_left (codes "M\t") rest (h.path ++ 10 ∷ []) (sym front ∙ h.written)

  module _ (p : List ℕ) (back : rest ≡ p ++ 10 ∷ []) where
    pub is_lead : line ≡ lead p
    is_lead = front ∙ ap (λ x. codes "M\t" ++ x) back

    pub no_path : (IsPath p → ⊥) → Leads line → ⊥
    no_path n h = n (subst IsPath (append_cancel_right h.path p (10 ∷ []) (sym (after_front h) ∙ back)) h.valid)

pub leads_not : (l : List ℕ) → (Leads l → ⊥) → leads l ≡ false
leads_not l n = elim (cases_Bool (leads l)) [ inl e ↦ absurd (n ((leads_decides l).0 e)) | inr e ↦ e ]

-- the path that a line leads, from the test of what stands there
pub path_told : (line rest : List ℕ) (path : Bor (List ℕ)) (test : Bool) (r : Option (Bor (List ℕ))) → line ≡ codes "M\t" ++ rest → rest ≡ path.now ++ 10 ∷ [] → Decides test (IsPath path.now) → r ≡ then_some test path → MatchOption r (Leads line → ⊥) (λ p. IsPath p.now × (line ≡ lead p.now))
path_told line rest path true r front back d e = rw e (d.0 refl, is_lead line rest front path.now back)
path_told line rest path false r front back d e = rw e (no_path line rest front path.now back (not_from_Decides false d refl))

pub leads_from : (line : List ℕ) (r : Option (Bor (List ℕ))) → MatchOption r (Leads line → ⊥) (λ p. IsPath p.now × (line ≡ lead p.now)) → is_some r ≡ true → Leads line
leads_from line None m e = absurd (cc)
leads_from line (Some p) m e = record { path = p.now; valid = m.0; written = m.1 }

-- lines of which none leads a module, passed over at the front of a text
pub record Passed (text rest : List ℕ) : Type 0 where
  pub front : List ℕ
  pub splits : text ≡ front ++ rest
  pub goes : body (lines text) ≡ front ++ body (lines rest)
  pub passes : modules text ≡ modules rest

-- a line is given, and the lines after it are left
abbrev Gives : Lines → Option (Bor (List ℕ)) → Lines → Type 0
Gives = YieldsFirstBy (λ (line : Bor (List ℕ)). line.now) lines_left

-- a text that begins with a line is cut there
pub cut_line : (text line rest : List ℕ) → lines text ≡ line ∷ lines rest → text ≡ line ++ rest
cut_line text line rest e = sym (concat-lines text) ∙ (ap concat e ∙ ap (λ x. line ++ x) (concat-lines rest))

pub no_lines : (text : List ℕ) → lines text ≡ [] → text ≡ []
no_lines text e = sym (concat-lines text) ∙ ap concat e

module _ {F : Type 0} (Turn : F → Bor (List ℕ) → F → Type 0) (no : (p q : F) (x : Bor (List ℕ)) → Turn p x q → Leads x.now → ⊥) where
  pub passed : (xs : List (Bor (List ℕ))) (s t : Lines) (f f' : F) → Yields Gives s xs t → FoldsTo Turn f xs f' → Passed s.rest.now t.rest.now
  passed [] s t f f' y w = record { front = []; splits = ap (λ (x : Lines). x.rest.now) y; goes = ap (λ (x : Lines). body (lines x.rest.now)) y; passes = ap (λ (x : Lines). modules x.rest.now) y }
  passed (x ∷ xs) s t f f' y w =
      let j = y.0 in
      let l : lines s.rest.now ≡ x.now ∷ lines j.rest.now = y.1 in
      let rest = passed xs j t w.0 f' y.2 w.2 in
      let n = leads_not x.now (no f w.0 x w.1) in
      record {
        front = x.now ++ rest.front;
        splits = cut_line s.rest.now x.now j.rest.now l ∙ (ap (λ z. x.now ++ z) rest.splits ∙ sym (append_assoc x.now rest.front t.rest.now));
        goes = ap body l ∙ (rw n (ap (λ z. x.now ++ z) rest.goes ∙ sym (append_assoc x.now rest.front (body (lines t.rest.now)))));
        passes = ap led l ∙ (rw n rest.passes);
      }

pub line_within : (text at line rest : List ℕ) → Passed text at → lines at ≡ line ∷ lines rest → length line ≤ length text - length rest
line_within text at line rest p l =
    let c = ap length p.splits in
    let d = ap length (cut_line at line rest l) in
    omega (arith, c, d, length-append p.front at, length-append line rest)

-- a body ends where a line leads the next module, or with the text
pub body_before : (text at line rest : List ℕ) → Passed text at → lines at ≡ line ∷ lines rest → Leads line → IsBody text (take (length text - length rest - length line) text)
body_before text at line rest p l h =
    let b : body (lines at) ≡ [] = ap body l ∙ (let e = (leads_decides line).1 h in rw e) in
    let c = ap length p.splits in
    let d = ap length (cut_line at line rest l) in
    let n : length p.front ≡ length text - length rest - length line = omega (arith, c, d, length-append p.front at, length-append line rest) in
    let e : take (length text - length rest - length line) text ≡ p.front = ap (take _) p.splits ∙ take_at p.front at _ n in
    record { rest = at; splits = rw e p.splits; holds = rw e (sym (p.goes ∙ (ap (λ x. p.front ++ x) b ∙ append-nil p.front))); passes = p.passes; stops = λ _. subst Leads (sym (first_line_is at line (lines rest) l)) h }

pub body_all : (text at : List ℕ) → Passed text at → lines at ≡ [] → IsBody text text
body_all text at p l =
    let b : body (lines at) ≡ [] = ap body l in
    let e : text ≡ p.front = p.splits ∙ (ap (λ x. p.front ++ x) (no_lines at l) ∙ append-nil p.front) in
    record { rest = []; splits = sym (append-nil text); holds = e ∙ sym (p.goes ∙ (ap (λ x. p.front ++ x) b ∙ append-nil p.front)); passes = p.passes ∙ ap modules (no_lines at l); stops = λ h. absurd (omega arith) }

-- the text from a place on, up to the line that leads the next module and with it
pub record Led (text path rest : List ℕ) : Type 0 where
  pub front : List ℕ
  pub splits : text ≡ front ++ rest
  pub some : 0 < length front
  pub is : modules text ≡ record { path = path; text = body (lines rest) } ∷ modules rest

module _ {F : Type 0} (Turn : F → Bor (List ℕ) → F → Type 0) (no : (p q : F) (x : Bor (List ℕ)) → Turn p x q → Leads x.now → ⊥) where
  pub led_next : (xs : List (Bor (List ℕ))) (s t u : Lines) (f f' : F) (o : Option (Bor (List ℕ))) (path : Bor (List ℕ)) (Stop : Bor (List ℕ) → Type 0) → Yields Gives s xs t → Gives t o u → FoldsTo Turn f xs f' → MatchOption o (Some path ≡ None) Stop → ((x : Bor (List ℕ)) → Stop x → IsPath path.now × (x.now ≡ lead path.now)) → Led s.rest.now path.now u.rest.now
  led_next xs s t u f f' None path Stop y k w m stop = absurd (cc)
  led_next xs s t u f f' (Some x) path Stop y k w m stop =
      let p = passed Turn no xs s t f f' y w in
      let h = stop x m in
      let q : led_path x.now ≡ path.now = ap led_path h.1 ∙ led_path_back path.now in
      let e = (leads_decides x.now).1 (record { path = path.now; valid = h.0; written = h.1 }) in
      let some : 0 < length x.now = omega (arith, ap length h.1) in
      let joined = length-append p.front x.now in
      record {
        front = p.front ++ x.now;
        splits = p.splits ∙ (ap (λ z. p.front ++ z) (cut_line t.rest.now x.now u.rest.now k) ∙ sym (append_assoc p.front x.now u.rest.now));
        some = omega arith;
        is = p.passes ∙ (ap led k ∙ rw (e, q));
      }

folds : (One : Bor (List ℕ) → Type 0) (xs : List (Bor (List ℕ))) → ((k : ℕ) → IfSome (slice_get xs k) One) → FoldsTo {P = Unit {0}} (λ p x q. One x) tt xs tt
folds One [] h = refl
folds One (x ∷ xs) h = (tt, h 0, folds One xs (λ k. h (suc k)))

-- no line of a text leads a module
pub none_led : (s : Lines) (p : Run Gives) (One : Bor (List ℕ) → Type 0) → p.from ≡ s → p.whole ≡ true → AllItems p One → ((x : Bor (List ℕ)) → One x → Leads x.now → ⊥) → modules s.rest.now ≡ []
unfolding YieldsRun
none_led s p One e w h apart =
    let d = p.gave.0 in
    let each = λ (k : ℕ). subst (λ (o : Option (Bor (List ℕ))). IfSome o One) (p.gave.1 k) (h k) in
    let q = passed {F = Unit {0}} (λ p x q. One x) (λ p q x k. apart x k) p.items p.from d.0 tt tt d.1 (folds One p.items each) in
    ap (λ (z : Lines). modules z.rest.now) (sym e) ∙ (q.passes ∙ ap led (d.2 w).1.0)

-- a text read from a place on
pub read_from : (text from : List ℕ) (at : ℕ) → from ≡ slice_range text at (length text) → from ≡ drop at text
read_from text from at e = let n = length-drop at text in e ∙ take_all (length text - at) (drop at text) (omega arith)

-- the module that such a line leads, and where the next is sought
pub next_module : (text from path rest front : List ℕ) (at : ℕ) → at ≤ length text → from ≡ drop at text → Led from path rest → IsBody rest front → (modules (drop at text) ≡ record { path = path; text = front } ∷ modules (drop (length text - length rest + length front) text)) × (at < length text - length rest + length front) × (length text - length rest + length front ≤ length text)
next_module text from path rest front at h e l b =
    let n : length from ≡ length text - at = ap length e ∙ length-drop at text in
    let k = ap length l.splits in
    let m = ap length b.splits in
    let j = length-append l.front rest in
    let i = length-append front b.rest in
    let some = l.some in
    let end : length text - length rest + length front ≡ at + length (l.front ++ front) = omega (arith, length-append l.front front) in
    let cut : from ≡ (l.front ++ front) ++ b.rest = l.splits ∙ (ap (λ x. l.front ++ x) b.splits ∙ sym (append_assoc l.front front b.rest)) in
    let d : drop (length text - length rest + length front) text ≡ b.rest =
    ap (λ x. drop x text) end ∙ (sym (drop-drop (length (l.front ++ front)) at text)
    ∙ (ap (drop (length (l.front ++ front))) (sym e ∙ cut) ∙ drop_at (l.front ++ front) b.rest (length (l.front ++ front)) refl)) in (
      ap modules (sym e) ∙ (l.is ∙ rw (sym b.holds, b.passes, d)),
      omega arith,
      omega arith,
    )

-- ---- the modules that are yet to come

abbrev pub module_shown : BundleModule → Source
module_shown m = record { path = m.path.now; text = m.text.now }

abbrev pub modules_left : Modules → List Source
modules_left s = modules (drop s.at s.text.now)

pub YieldsList-from_modules : (text : List ℕ) (s : Modules) → s.text.now ≡ text → s.at ≡ 0 → YieldsList Advances module_shown s (modules text)
YieldsList-from_modules text s e z =
    let all : modules_left s ≡ modules text = ap (λ n. modules (drop n s.text.now)) z ∙ ap modules e in
    subst (YieldsList Advances module_shown s) all
    (YieldsList-from_shown Advances module_shown modules_left (λ a b h. ap length h.0) (λ a x b h. h.0.0 ∙ ap (λ (t : Modules). module_shown x ∷ modules_left t) (sym h.1)) s)

text_at-find : (ss : List Source) (p : List ℕ) → text_at ss p ≡ option_map (λ (s : Source). s.text) (find (λ (s : Source). bytes_eq s.path p) ss)
text_at-find [] p = refl
text_at-find (s ∷ ss) p = elim (cases_Bool (bytes_eq s.path p)) [ inl e ↦ rw e | inr e ↦ rw e (text_at-find ss p) ]

-- the text of the module that was found
pub text_found : (ss : List Source) (p : List ℕ) (m : Option BundleModule) (t : Option (Bor (List ℕ))) (Shows : BundleModule → Bor (List ℕ) → Type 0) → option_map module_shown m ≡ find (λ (s : Source). bytes_eq s.path p) ss → MatchOption m (t ≡ None) (λ x. IsSomeAnd t (Shows x)) → ((x : BundleModule) (y : Bor (List ℕ)) → Shows x y → y ≡ x.text) → option_map (λ x. x.now) t ≡ text_at ss p
text_found ss p None t Shows f e g = rw e (sym (text_at-find ss p ∙ ap (option_map (λ (s : Source). s.text)) (sym f)))
text_found ss p (Some x) None Shows f e g = absurd e
text_found ss p (Some x) (Some y) Shows f e g = ap (λ (z : Bor (List ℕ)). Some z.now) (g x y e) ∙ sym (text_at-find ss p ∙ ap (option_map (λ (s : Source). s.text)) (sym f))
