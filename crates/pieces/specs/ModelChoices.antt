-- Model: one of a list, a list made from lists, and the lowest of a list. Assumes nothing.
use Rattle.std.specs.Prelude.{◌≡◌, ℕ, zero, suc, cond, ◌⊎◌, List, [], ◌∷◌, ◌++◌, Some, None, Option, nat_lt}

-- P holds of some of the list
abbrev pub SomeOf : {A : Type 0} → (A → Type 0) → List A → Type 0
SomeOf P [] = ⊥
SomeOf P (x ∷ xs) = P x ⊎ SomeOf P xs

-- r is in the list
abbrev pub Has : ℕ → List ℕ → Type 0
Has r l = SomeOf (λ k. k ≡ r) l

-- the lists of the numbers below k, the highest first
abbrev pub gather : {A : Type 0} → ℕ → (ℕ → List A) → List A
gather zero f = []
gather (suc k) f = f k ++ gather k f

abbrev pub lower : ℕ → Option ℕ → ℕ
lower a None = a
lower a (Some b) = cond (nat_lt b a) b a

abbrev pub lowest : List ℕ → Option ℕ
lowest [] = None
lowest (a ∷ l) = Some (lower a (lowest l))
