-- Proofs: a loop over a list that stops at the first entry which a test takes: what is left decides.
use Rattle.std.proofs.Common.{◌≡◌, ℕ, ◌+◌, ◌<◌, ◌≤◌, Bool, true, false, ◌||◌, List, [], ◌∷◌, length, get_or, drop, sym, ap, ◌∙◌}
use Rattle.std.proofs.lemmas.List.{at_drop_more, at_drop_all}

module _ {A : Type 0} (F : List A → Bool) (test : A → Bool) (more : (x : A) (xs : List A) → F (x ∷ xs) ≡ (test x || F xs)) (none : F [] ≡ false) (xs : List A) (i : ℕ) (left : F (drop i xs) ≡ F xs) where
  pub any_here : (d : A) → i < length xs → test (get_or xs i d) ≡ true → true ≡ F xs
  any_here d q t = ap (λ b. b || F (drop (i + 1) xs)) (sym t) ∙ (sym (more (get_or xs i d) (drop (i + 1) xs)) ∙ (sym (at_drop_more F xs i d q) ∙ left))

  pub any_on : (d : A) → i < length xs → test (get_or xs i d) ≡ false → F (drop (i + 1) xs) ≡ F xs
  any_on d q t = ap (λ b. b || F (drop (i + 1) xs)) (sym t) ∙ (sym (more (get_or xs i d) (drop (i + 1) xs)) ∙ (sym (at_drop_more F xs i d q) ∙ left))

  pub any_none : length xs ≤ i → false ≡ F xs
  any_none q = sym none ∙ (sym (at_drop_all F xs i q) ∙ left)
