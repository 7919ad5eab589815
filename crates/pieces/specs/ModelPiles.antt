-- Model: a pile of items worked off: what is found and what is still on the pile are together what the first pile has. Assumes nothing.
use Rattle.std.specs.Prelude.{ℕ, zero, suc, ◌+◌, List, [], ◌∷◌, ◌++◌, Some, None, Option}
use Rattle.pieces.specs.ModelChoices.{lowest}

abbrev pub either : Option ℕ → Option ℕ → Option ℕ
either None o = o
either (Some a) None = Some a
either (Some a) (Some b) = lowest (a ∷ b ∷ [])

abbrev pub total : {C : Type 0} → (C → ℕ) → List C → ℕ
total f [] = 0
total f (c ∷ l) = f c + total f l

-- how many items there are from an item on, to a depth n
abbrev pub tree : {C : Type 0} → (C → List C) → ℕ → C → ℕ
tree next zero c = 1
tree next (suc n) c = suc (total (tree next n) (next c))

-- the pile worked off, with a bound on the turns
abbrev pub drain : {C : Type 0} → (C → List C) → (C → List ℕ) → ℕ → List C → List ℕ → Option (List ℕ)
drain next hits n [] seen = Some seen
drain next hits zero (c ∷ pile) seen = None
drain next hits (suc n) (c ∷ pile) seen = drain next hits n (next c ++ pile) (hits c ++ seen)
