-- The first line that breaks a bundle.
use Rattle.std.proofs.Common.{◌≡◌, ℕ, zero, suc, ◌+◌, ◌<◌, ◌≤◌, eqb, List, [], ◌∷◌, length, Some, None, Option, MatchOption, IsSomeAnd, sym, subst, inl, inr, ⊎_elim, slice_index_or, ap, arith}
use Rattle.std.specs.List.{HoldsAt, AllWithin}
use Rattle.std.proofs.lemmas.Bool.{cases_Bool}
use Rattle.wesl_path.specs.Path.{onto_first}
use Rattle.wesl_resolve.specs.Lines.{lines}
use Rattle.wesl_resolve.specs.Bundles.{Leads, Strays, Breaks, Unbroken, BrokenAt}

-- there are no more lines than bytes
length-lines : (bs : List ℕ) → length (lines bs) ≤ length bs
length-lines [] = omega arith
length-lines (b ∷ bs) =
    let k = length-lines bs in
    elim (cases_Bool (eqb b 10)) [ inl e ↦ rw e (omega arith) | inr e ↦ rw e (joined (lines bs) k) ]
  where
    joined : (ls : List (List ℕ)) → length ls ≤ length bs → length (onto_first b ls) ≤ suc (length bs)
    joined [] h = omega arith
    joined (l ∷ ls) h = omega arith

module _ (text first : List ℕ) (ls : List (List ℕ)) (is : lines text ≡ first ∷ ls) where
  within : (i : ℕ) → i < 1 + length ls → i < length text
  within i h = let k = length-lines text in omega (arith, ap length is)

  at_lines : (i : ℕ) → Breaks (first ∷ ls) i → Breaks (lines text) i
  at_lines i = subst (λ (all : List (List ℕ)). Breaks all i) (sym is)

  module _ (leads : Leads first) where
    -- where the first leads one, a line breaks the bundle just where it strays
    settled : (i : ℕ) → ((d : List ℕ) → Strays (slice_index_or ls i d) → ⊥) → Breaks (first ∷ ls) (suc i) → ⊥
    settled i n b = ⊎_elim (λ m. n [] (m, b.1)) (λ a. a 0 (omega arith) leads) b.2

    unbroken : (n : ℕ) → AllWithin (λ l. Strays l → ⊥) ls 0 n → (i : ℕ) → i < suc n → Breaks (lines text) i → ⊥
    unbroken n none zero h b = (subst (λ (all : List (List ℕ)). Breaks all 0) is b).1 leads
    unbroken n none (suc i) h b = settled i (λ d. none i d (omega arith) (omega arith)) (subst (λ (all : List (List ℕ)). Breaks all (suc i)) is b)

    pub broken_next : (at found : Option ℕ) (Gives : ℕ → ℕ → Type 0) → MatchOption at (AllWithin (λ l. Strays l → ⊥) ls 0 (length ls)) (λ i. (i < length ls) × HoldsAt Strays ls i × AllWithin (λ l. Strays l → ⊥) ls 0 i) → MatchOption at (found ≡ None) (λ i. IsSomeAnd found (Gives i)) → ((i j : ℕ) → Gives i j → j ≡ i + 1) → MatchOption found (Unbroken text) (λ i. BrokenAt text i)
    broken_next None found Gives m e g = rw e (λ i b. unbroken (length ls) m i (subst (λ (all : List (List ℕ)). Breaks all i) is b).0 b)
    broken_next (Some i) None Gives m e g = absurd e
    broken_next (Some i) (Some j) Gives m e g =
        let n : j ≡ suc i = omega (arith, g i j e) in
        let s = m.1 [] in
        rw n (record {
          breaks = at_lines (suc i) (omega arith, s.1, inl s.0);
          before = λ k h. unbroken i m.2 k h;
          within = within (suc i) (omega arith);
        })
