-- Proofs: tests of the first edges of a case.
use Rattle.std.proofs.Common.{◌≡◌, ℕ, zero, suc, ◌≤◌, List, length, take, refl, add-one, arith}
use Rattle.std.proofs.lemmas.Bool.Decides.{nat_tests}
use Rattle.std.proofs.lemmas.List.Folds.{list_all_more}
use Rattle.std.specs.List.{list_all}
use Rattle.pieces.specs.declared.shapes.Edge.{Edge}
use Rattle.pieces.specs.declared.shapes.Edge.TheVariants.{Dead}
use Rattle.pieces.specs.ModelCover.{is_dead, all_dead}
use Rattle.cases.specs.Covers.{edges_of}

-- the first m edges are dead, one by one from the first on, or from the last on
pub all_of_first : (m : ℕ) (es : List Edge) → m ≤ length es → list_all is_dead (take m es) ≡ all_dead m (edges_of es)
all_of_first zero es q = refl
all_of_first (suc m) es q =
    let more = list_all_more is_dead es m Dead (omega arith) in let ih = all_of_first m es (omega arith) in let e = add-one m in
    grind (arith, nat_tests)
