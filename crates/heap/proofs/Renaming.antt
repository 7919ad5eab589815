-- Proofs: a list under other names says what it says of their values.
use Rattle.std.proofs.Common.{ℕ, List, [], ◌∷◌}
use Rattle.heap.specs.Heaps.{Heap}
use Rattle.heap.specs.Lists.{Holds, renamed}
use Rattle.heap.specs.declared.atoms.Atom.{Atom}
use Rattle.heap.specs.declared.atoms.Atom.TheVariants.{Eq, Neq, Next, Lseg}

module _ (v f : ℕ → ℕ) where
  pub renamed_holds : (r : List Atom) (h : Heap) → Holds v (renamed f r) h → Holds (λ x. v (f x)) r h
  renamed_holds [] h w = w
  renamed_holds (Eq x y ∷ r) h w = (w.0, renamed_holds r h w.1)
  renamed_holds (Neq x y ∷ r) h w = (w.0, renamed_holds r h w.1)
  renamed_holds (Next x y ∷ r) h w = (w.0, w.1, w.2, w.3, renamed_holds r w.1 w.4)
  renamed_holds (Lseg x y ∷ r) h w = (w.0, w.1, w.2, w.3, renamed_holds r w.1 w.4)

  pub holds_renamed : (r : List Atom) (h : Heap) → Holds (λ x. v (f x)) r h → Holds v (renamed f r) h
  holds_renamed [] h w = w
  holds_renamed (Eq x y ∷ r) h w = (w.0, holds_renamed r h w.1)
  holds_renamed (Neq x y ∷ r) h w = (w.0, holds_renamed r h w.1)
  holds_renamed (Next x y ∷ r) h w = (w.0, w.1, w.2, w.3, holds_renamed r w.1 w.4)
  holds_renamed (Lseg x y ∷ r) h w = (w.0, w.1, w.2, w.3, holds_renamed r w.1 w.4)
