-- Modules by their paths: what is found, and what a further one changes.
use Rattle.std.proofs.Common.{◌≡◌, ℕ, zero, suc, ◌<◌, true, false, List, [], ◌∷◌, ◌++◌, map, length, get_or, set, Some, None, sym, refl, ap, ◌∙◌, inl, inr, arith}
use Rattle.std.specs.List.{HoldsAt, AllWithin}
use Rattle.std.specs.Str.{bytes_eq}
use Rattle.std.proofs.lemmas.Slice.Eq.{bytes_eq-Decides}
use Rattle.std.proofs.lemmas.Bool.{cases_Bool, both_ways}
use Rattle.wesl_resolve.specs.Sources.{Source, text_at, with_source, changed}

pub bytes_same : (a b : List ℕ) → a ≡ b → bytes_eq a b ≡ true
bytes_same a b e = (bytes_eq-Decides a b).1 e

pub bytes_apart : (a b : List ℕ) → (a ≡ b → ⊥) → bytes_eq a b ≡ false
bytes_apart a b n = elim (cases_Bool (bytes_eq a b)) [ inl e ↦ absurd (n ((bytes_eq-Decides a b).0 e)) | inr e ↦ e ]

module _ {X : Type 0} (f : X → Source) (p : List ℕ) where
  -- none of the records before an index has the path
  abbrev pub Before : List X → ℕ → Type 0
  Before xs i = AllWithin (λ x. (f x).path ≡ p → ⊥) xs 0 i

  before_rest : (x : X) (xs : List X) (i : ℕ) → Before (x ∷ xs) (suc i) → Before xs i
  before_rest x xs i n k d l h = n (suc k) d (omega arith) (omega arith)

  pub text_found : (xs : List X) (i : ℕ) (d : X) → i < length xs → HoldsAt (λ y. (f y).path ≡ p) xs i → Before xs i → text_at (map f xs) p ≡ Some (f (get_or xs i d)).text
  text_found [] i d h a n = absurd (omega arith)
  text_found (y ∷ ys) zero d h a n = let q = bytes_same (f y).path p (a d) in rw q
  text_found (y ∷ ys) (suc i) d h a n =
      let q = bytes_apart (f y).path p (n 0 y (omega arith) (omega arith)) in rw q (text_found ys i d (omega arith) a (before_rest y ys i n))

  pub text_absent : (xs : List X) → Before xs (length xs) → text_at (map f xs) p ≡ None
  text_absent [] n = refl
  text_absent (y ∷ ys) n =
      let q = bytes_apart (f y).path p (n 0 y (omega arith) (omega arith)) in
      rw q (text_absent ys (before_rest y ys (length ys) n))

  module _ (t : List ℕ) (m : X) (is : f m ≡ record { path = p; text = t }) where
    pub replaced : (xs : List X) (i : ℕ) → i < length xs → HoldsAt (λ y. (f y).path ≡ p) xs i → Before xs i → map f (set xs i m) ≡ with_source p t (map f xs)
    replaced [] i h a n = absurd (omega arith)
    replaced (y ∷ ys) zero h a n = let q = bytes_same (f y).path p (a y) in rw q (ap (λ s. s ∷ map f ys) is)
    replaced (y ∷ ys) (suc i) h a n =
        let q = bytes_apart (f y).path p (n 0 y (omega arith) (omega arith)) in
        rw q (ap (λ ss. f y ∷ ss) (replaced ys i (omega arith) a (before_rest y ys i n)))

    pub appended : (xs : List X) → Before xs (length xs) → map f (xs ++ m ∷ []) ≡ with_source p t (map f xs)
    appended [] n = ap (λ s. s ∷ []) is
    appended (y ∷ ys) n =
        let q = bytes_apart (f y).path p (n 0 y (omega arith) (omega arith)) in
        rw q (ap (λ ss. f y ∷ ss) (appended ys (before_rest y ys (length ys) n)))

-- a further module changes the map at its path alone
pub remapped : (p t : List ℕ) (ss : List Source) (q : List ℕ) → text_at (with_source p t ss) q ≡ changed p t (text_at ss) q
remapped p t [] q = refl
remapped p t (s ∷ ss) q =
    elim (cases_Bool (bytes_eq s.path p)) [
      | inl e ↦ rw e (let c = (bytes_eq-Decides s.path p).0 e in rw c (elim (cases_Bool (bytes_eq p q)) [ inl u ↦ rw u | inr u ↦ rw u ]))
      | inr e ↦ rw e (rw (remapped p t ss q)
          (elim (cases_Bool (bytes_eq s.path q)) [
            | inl u ↦ let c = (bytes_eq-Decides s.path q).0 u in
                let v : bytes_eq p q ≡ false = bytes_apart p q (λ w. both_ways _ e (bytes_same s.path p (c ∙ sym w))) in rw (u, v)
            | inr u ↦ rw u
          ]))
    ]
