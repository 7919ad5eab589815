-- there is always a value that is newly: a heap that a shape describes is finite
use Rattle.std.proofs.Common.{◌≡◌, ℕ, zero, suc, ◌+◌, ◌<◌, ◌≤◌, true, ◌≢◌, List, [], ◌∷◌, None, inl, inr, arith}
use Rattle.std.proofs.lemmas.Bool.Decides.{nat_tests}
use Rattle.std.proofs.lemmas.Bool.{cases_eq}
use Rattle.pieces.specs.declared.shapes.Edge.{Edge}
use Rattle.pieces.specs.declared.shapes.Edge.TheVariants.{Dead}
use Rattle.heap.specs.Heaps.{Heap}
use Rattle.pieces.specs.Pieces.{mem}
use Rattle.pieces.specs.Pieces.{put}
use Rattle.pieces.specs.ModelShapes.{Sound, Model}
use Rattle.pieces.proofs.ShapeModels.{widen}

total : List ℕ → ℕ
total [] = 0
total (x ∷ xs) = x + total xs

in_total : (xs : List ℕ) (a : ℕ) → mem a xs ≡ true → a ≤ total xs
unfolding total
in_total [] a on = absurd (grind (arith, nat_tests))
in_total (x ∷ xs) a on = elim (cases_eq a x) [
  | inl e ↦ omega arith
  | inr n ↦ let ih = in_total xs a (grind (arith, nat_tests)) in omega arith
]

sum : ℕ → (ℕ → ℕ) → ℕ
sum zero f = 0
sum (suc m) f = f m + sum m f

in_sum : (m : ℕ) (f : ℕ → ℕ) (k : ℕ) → k < m → f k ≤ sum m f
unfolding sum
in_sum zero f k q = absurd (omega arith)
in_sum (suc m) f k q = elim (cases_eq k m) [ inl e ↦ grind arith | inr n ↦ let ih = in_sum m f k (omega arith) in omega arith ]

pub fresh : (m : ℕ) (edge : ℕ → Edge) (val : ℕ → ℕ) (h : Heap) → Model m edge val h → (z : ℕ) × (h z ≡ None) × ((k : ℕ) → k < m → val k ≢ z)
fresh m edge val h M =
    let z : ℕ = suc (sum m (λ k. val k + total (M.run k))) in (
      z,
      elim (M.all z) [
        | inl d ↦ d
        | inr (p, on) ↦ let a = in_total (M.run (M.own z)) z on in let b = in_sum m (λ k. val k + total (M.run k)) (M.own z) p in absurd (omega arith)
      ],
      λ k q e. let b = in_sum m (λ k. val k + total (M.run k)) k q in omega arith,
    )

-- a dead last node says nothing
pub forget : (m : ℕ) (edge : ℕ → Edge) (name : ℕ → ℕ) (val : ℕ → ℕ) (h : Heap) → Sound m edge name → Model m edge val h → (z : ℕ) × Model (suc m) (put edge m Dead) (put val m z) h
forget m edge name val h w M =
    let f = fresh m edge val h M in
    (f.0, widen m edge val h M name w f.0 (put val m f.0) (put edge m Dead) f.1 f.2 (grind (arith, nat_tests)) (λ k q. grind (arith, nat_tests)) (grind (arith, nat_tests)) (λ k q. grind (arith, nat_tests)))
