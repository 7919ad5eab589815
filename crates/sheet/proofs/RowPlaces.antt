-- The search for a misplaced row finds none exactly if all rows are in place, and else finds the lowest.
use Rattle.std.proofs.Common.{◌≡◌, ℕ, suc, ◌<◌, ◌≤◌, true, false, cond, List, [], ◌∷◌, length, Some, None, sym, refl, ap, ◌∙◌, arith}
use Rattle.sheet.specs.Routines.{Command}
use Rattle.sheet.specs.Flow.{misplaced, InPlace}
use Rattle.sheet.specs.Reading.{first_misplaced}
use Rattle.sheet.proofs.Lowest.{lowest, lowest_none, none_lowest, lowest_some}

module _ (rows : List Command) where
  as_lowest : (i : ℕ) (cs : List Command) → first_misplaced rows i cs ≡ lowest (misplaced rows) i (length cs)
  as_lowest i [] = refl
  as_lowest i (c ∷ cs) = ap (λ o. cond (misplaced rows i) (Some i) o) (as_lowest (suc i) cs)

  pub misplaced_none : first_misplaced rows 1 rows ≡ None → InPlace rows
  misplaced_none e i h l = lowest_none (misplaced rows) 1 (length rows) (sym (as_lowest 1 rows) ∙ e) i h (omega arith)

  pub none_misplaced : InPlace rows → first_misplaced rows 1 rows ≡ None
  none_misplaced f = as_lowest 1 rows ∙ none_lowest (misplaced rows) 1 (length rows) (λ j h l. f j h (omega arith))

  pub misplaced-first : (i : ℕ) → first_misplaced rows 1 rows ≡ Some i → (1 ≤ i) × (i ≤ length rows) × (misplaced rows i ≡ true) × ((j : ℕ) → 1 ≤ j → j < i → misplaced rows j ≡ false)
  misplaced-first i e = let f = lowest_some (misplaced rows) 1 (length rows) i (sym (as_lowest 1 rows) ∙ e) in (f.from, omega arith, f.passes, f.below)
