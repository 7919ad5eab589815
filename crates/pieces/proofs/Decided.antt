-- Proofs: the test of a shape against a list decides whether the list holds of everything the shape describes.
use Rattle.std.proofs.Common.{◌≡◌, ℕ, true, false, List, refl, arith}
use Rattle.std.proofs.lemmas.Bool.Decides.{nat_tests}
use Rattle.heap.specs.Heaps.{Heap}
use Rattle.heap.specs.Lists.{Holds}
use Rattle.heap.specs.declared.atoms.Atom.{Atom}
use Rattle.pieces.specs.ModelShapes.{Shape, Fits, SoundShape}
use Rattle.pieces.specs.ModelCover.{covered}
use Rattle.pieces.proofs.TwoCells.{canon, canon_model, canon_two, same}
use Rattle.pieces.proofs.CoverExact.{covered_sound, covered-complete, holds_takes, takes_holds}

pub covered_holds : (s : Shape) (r : List Atom) → SoundShape s → covered s.size s.name r s.edge ≡ true → (env : ℕ → ℕ) (h : Heap) → Fits s env h → Holds env r h
covered_holds s r w c env h F = takes_holds env r h (covered_sound s.size s.name F.val r s.edge env h w F.model F.named c)

-- where the test fails, the heap with two cells to each segment refutes the list
pub uncovered_fails : (s : Shape) (r : List Atom) → SoundShape s → covered s.size s.name r s.edge ≡ false → (env : ℕ → ℕ) × (h : Heap) × Fits s env h × ¬ Holds env r h
uncovered_fails s r w c = (
  s.name,
  canon s.size s.edge,
  record { val = same; model = canon_model s.size s.edge s.name w; named = λ n. refl },
  λ H. let y = covered-complete s.size s.name same r s.edge s.name (canon s.size s.edge) w (canon_model s.size s.edge s.name w) (canon_two s.size s.edge s.name w) (λ n. refl)
      (holds_takes s.name r (canon s.size s.edge) H) in grind (arith, nat_tests),
)
