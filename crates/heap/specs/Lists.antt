-- Meaning: what a list of atoms says of values and a heap, and a list under other names. Assumes nothing.
use Rattle.std.specs.Prelude.{◌≡◌, ℕ, ◌≢◌, List, [], ◌∷◌}
use Rattle.heap.specs.Heaps.{Heap, Empty, Split, IsCell, IsLseg}
use Rattle.heap.specs.declared.atoms.Atom.{Atom}
use Rattle.heap.specs.declared.atoms.Atom.TheVariants.{Eq, Neq, Next, Lseg}

-- under the values v of the names: the equations hold, and the heap splits into a part for each cell and segment, with nothing left over
abbrev pub Holds : (ℕ → ℕ) → List Atom → Heap → Type 0
Holds v [] h = Empty h
Holds v (Eq x y ∷ r) h = (v x ≡ v y) × Holds v r h
Holds v (Neq x y ∷ r) h = (v x ≢ v y) × Holds v r h
Holds v (Next x y ∷ r) h = (k : Heap) × (l : Heap) × Split h k l × IsCell (v x) (v y) k × Holds v r l
Holds v (Lseg x y ∷ r) h = (k : Heap) × (l : Heap) × Split h k l × IsLseg k (v x) (v y) × Holds v r l

-- each name x read as f x, all at once
abbrev pub renamed : (ℕ → ℕ) → List Atom → List Atom
renamed f [] = []
renamed f (Eq x y ∷ r) = Eq (f x) (f y) ∷ renamed f r
renamed f (Neq x y ∷ r) = Neq (f x) (f y) ∷ renamed f r
renamed f (Next x y ∷ r) = Next (f x) (f y) ∷ renamed f r
renamed f (Lseg x y ∷ r) = Lseg (f x) (f y) ∷ renamed f r
