-- Proofs: a name placed at one node after another.
use Rattle.std.proofs.Common.{◌≡◌, ℕ, ◌+◌, false, cond, List, ◌∷◌, ◌++◌, length, drop, sym, ap, ◌∙◌}
use Rattle.heap.specs.declared.atoms.Atom.{Atom}
use Rattle.pieces.specs.ModelOpening.{clash}
use Rattle.pieces.specs.ModelShapes.{Shape}
use Rattle.pieces.specs.ModelStages.{Item, item, placing, placed}
use Rattle.cases.specs.declared.cases.Case.{Case}
use Rattle.cases.specs.declared.cases.Stage.TheVariants.{Placing}
use Rattle.cases.specs.Items.{shape_of, LaidAs}
use Rattle.cases.proofs.Laying.{item_is, laid_unless}

module _ (names : List ℕ) (atoms : List Atom) (k r : ℕ) (s : Shape) (case : Case) (u : Shape) (shape : shape_of case ≡ u) (row : case.row ≡ r) (stage : case.stage ≡ Placing (k + 1)) (q q' : List Case)
    (put : q' ≡ cond (clash (drop (k + 1) names) (shape_of case) atoms) q (case ∷ q)) where
  -- one case more, unless it clashes
  pub laid_placed : (new : List Item) (p : List Case) → LaidAs names atoms new p q → LaidAs names atoms (placed (drop (k + 1) names) atoms r u ++ new) p q'
  laid_placed new p l =
      laid_unless names atoms new p q q' case (clash (drop (k + 1) names) u atoms) (item (placing (drop (k + 1) names) atoms) r u) (item_is names atoms case (Placing (k + 1)) r u stage row shape)
      (put ∙ ap (λ v. cond (clash (drop (k + 1) names) v atoms) q (case ∷ q)) shape) l

module _ (names : List ℕ) (atoms : List Atom) (k r : ℕ) (s : Shape) (case : Case) where
  -- where it does not clash, it is one more
  pub one_placed : (u : Shape) → shape_of case ≡ u → clash (drop (k + 1) names) (shape_of case) atoms ≡ false → length (placed (drop (k + 1) names) atoms r u) ≡ 1
  one_placed u e t = let b : clash (drop (k + 1) names) u atoms ≡ false = ap (λ v. clash (drop (k + 1) names) v atoms) (sym e) ∙ t in rw b
