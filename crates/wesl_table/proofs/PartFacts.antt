-- What is first in a part of a list is first in the list from the part's start on.
use Rattle.std.proofs.Common.{◌≡◌, ℕ, ◌+◌, ◌-◌, ◌<◌, ◌≤◌, List, length, get_or, drop, Some, None, Option, ap, ◌∙◌, subst, arith}
use Rattle.std.specs.List.{HoldsAt, AllWithin, slice_range}
use Rattle.std.specs.Option.{MatchOption, option_map}
use Rattle.std.proofs.lemmas.List.{get_or-take, get_or-drop, length-take, length-drop}
use Rattle.wesl_table.specs.Keys.{First}

module _ {X : Type 0} (xs : List X) (low high : ℕ) where
  -- the records from `low` on and below `high`
  abbrev pub part : List X
  part = slice_range xs low high

  part-at : (k : ℕ) (d : X) → k < high - low → get_or part k d ≡ get_or xs (low + k) d
  part-at k d h = get_or-take (high - low) _ k d h ∙ get_or-drop low xs k d

  all_within : (P : X → Type 0) (i : ℕ) → i ≤ high - low → AllWithin P part 0 i → AllWithin P xs low (low + i)
  all_within P i h f k d a b =
      let q : low + (k - low) ≡ k = omega arith in
      subst P (part-at (k - low) d (omega arith) ∙ ap (λ j. get_or xs j d) q) (f (k - low) d (omega arith) (omega arith))

  -- the first in the part, counted from the part's start, is the first in the list from there on
  pub first_in_part : (P : X → Type 0) (r : Option ℕ) → low ≤ high → high ≤ length xs → MatchOption r (AllWithin (λ x. P x → ⊥) part 0 (length part)) (λ i. (i < length part) × HoldsAt P part i × AllWithin (λ x. P x → ⊥) part 0 i) → First P xs low high (option_map (λ i. low + i) r)
  first_in_part P None h l f =
      let n : low + length part ≡ high = omega (arith, length-take (high - low) (drop low xs), length-drop low xs) in
      rw n at (all_within (λ x. P x → ⊥) (length part) (omega arith) f)
  first_in_part P (Some i) h l f =
      let n : i < high - low = omega (arith, f.0, length-take (high - low) (drop low xs), length-drop low xs) in
      (omega arith, omega arith, (λ d. subst P (part-at i d n) (f.1 d)), all_within (λ x. P x → ⊥) i (omega arith) f.2)
