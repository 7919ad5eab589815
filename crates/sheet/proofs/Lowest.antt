-- A search upwards finds the lowest number that passes a test, or none if none passes.
use Rattle.std.proofs.Common.{◌≡◌, ℕ, zero, suc, ◌+◌, ◌<◌, ◌≤◌, Bool, true, false, cond, ◌⊎◌, Some, None, Option, refl, ◌∙◌, subst, inl, inr, arith}
use Rattle.std.proofs.lemmas.Bool.{cases_eq, cond-false}

-- one number's test, and the search behind it
none_so_far : {A : Type 0} (b : Bool) (x : A) (o : Option A) → cond b (Some x) o ≡ None → (b ≡ false) × (o ≡ None)
none_so_far true x o e = let z : ◌≡◌ {A = ℕ} 0 1 = cc in absurd (omega arith)
none_so_far false x o e = (refl, e)

here_or_later : {A : Type 0} (b : Bool) (x y : A) (o : Option A) → cond b (Some x) o ≡ Some y → ((b ≡ true) × (x ≡ y)) ⊎ ((b ≡ false) × (o ≡ Some y))
here_or_later true x y o e = inl (refl, cc)
here_or_later false x y o e = inr (refl, e)

-- the lowest of n numbers from i on that passes
abbrev pub lowest : (ℕ → Bool) → ℕ → ℕ → Option ℕ
lowest f i zero = None
lowest f i (suc n) = cond (f i) (Some i) (lowest f (suc i) n)

pub record Lowest (f : ℕ → Bool) (i n k : ℕ) : Type 0 where
  pub from : i ≤ k
  pub within : k < i + n
  pub passes : f k ≡ true
  pub below : (j : ℕ) → i ≤ j → j < k → f j ≡ false

module _ (f : ℕ → Bool) where
  pub lowest_none : (i n : ℕ) → lowest f i n ≡ None → (j : ℕ) → i ≤ j → j < i + n → f j ≡ false
  lowest_none i zero e j h l = absurd (omega arith)
  lowest_none i (suc n) e j h l =
      let s = none_so_far (f i) i (lowest f (suc i) n) e in
      elim (cases_eq i j) [
        | inl q ↦ subst (λ m. f m ≡ false) q s.0
        | inr ne ↦ lowest_none (suc i) n s.1 j (omega arith) (omega arith)
      ]

  pub none_lowest : (i n : ℕ) → ((j : ℕ) → i ≤ j → j < i + n → f j ≡ false) → lowest f i n ≡ None
  none_lowest i zero h = refl
  none_lowest i (suc n) h =
      cond-false (f i) (Some i) (lowest f (suc i) n) (h i (omega arith) (omega arith))
      ∙ none_lowest (suc i) n (λ j l u. h j (omega arith) (omega arith))

  lower : (i n k : ℕ) → f i ≡ false → Lowest f (suc i) n k → (j : ℕ) → i ≤ j → j < k → f j ≡ false
  lower i n k e s j h l = elim (cases_eq i j) [
    | inl q ↦ subst (λ m. f m ≡ false) q e
    | inr ne ↦ s.below j (omega arith) l
  ]

  pub lowest_some : (i n k : ℕ) → lowest f i n ≡ Some k → Lowest f i n k
  lowest_some i zero k e = let z : ◌≡◌ {A = ℕ} 0 1 = cc in absurd (omega arith)
  lowest_some i (suc n) k e = elim (here_or_later (f i) i k (lowest f (suc i) n) e) [
    | inl s ↦ let q = s.1 in record { from = omega arith; within = omega arith; passes = subst (λ m. f m ≡ true) q s.0; below = λ j h l. absurd (omega arith) }
    | inr s ↦ let g = lowest_some (suc i) n k s.1 in record { from = omega arith; within = omega arith; passes = g.passes; below = lower i n k s.0 g }
  ]
