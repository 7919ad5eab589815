-- Proofs: a case with nil alone.
use Rattle.std.proofs.Common.{◌≡◌, ℕ, get_or, replicate, ap, ◌∙◌, inl, inr, arith}
use mathlib.Core.Path.{fun_ext}
use lib.ListN.{get_or-replicate, length-replicate}
use Rattle.std.proofs.lemmas.List.{get_or_past}
use Rattle.std.proofs.lemmas.Bool.{cases_lt}
use Rattle.pieces.specs.declared.shapes.Edge.{Edge}
use Rattle.pieces.specs.declared.shapes.Edge.TheVariants.{Dead}
use Rattle.pieces.specs.ModelOpening.{bare}
use Rattle.pieces.specs.ModelShapes.{Shape}
use Rattle.cases.specs.declared.cases.Case.{Case}
use Rattle.cases.specs.Items.{shape_of}

all_same : {A : Type 0} (n : ℕ) (a : A) (i : ℕ) → get_or (replicate n a) i a ≡ a
all_same n a i = elim (cases_lt i n) [ inl q ↦ get_or-replicate n i a a q | inr q ↦ get_or_past (replicate n a) i a (let e = length-replicate n a in omega arith) ]

make : ℕ → (ℕ → ℕ) → (ℕ → Edge) → Shape
make size name edge = record { size = size; name = name; edge = edge }

pub empty_bare : (k : Case) → k.names ≡ replicate 9 0 → k.edges ≡ replicate 17 Dead → k.nodes ≡ 1 → shape_of k ≡ bare
unfolding make
empty_bare k a b c =
    ap (λ m. make m (λ n. get_or k.names n 0) (λ i. get_or k.edges i Dead)) c
    ∙ (ap (λ l. make 1 (λ n. get_or l n 0) (λ i. get_or k.edges i Dead)) a ∙ ap (λ f. make 1 f (λ i. get_or k.edges i Dead)) (fun_ext (λ n. all_same 9 0 n)))
    ∙ (ap (λ l. make 1 (λ n. 0) (λ i. get_or l i Dead)) b ∙ ap (make 1 (λ n. 0)) (fun_ext (λ i. all_same 17 Dead i)))
