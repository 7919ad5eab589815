-- What is left of the list and of the edges decides.
use Rattle.std.proofs.Common.{◌≡◌, drop}
use Rattle.pieces.specs.ModelCover.{covered}
use Rattle.cases.specs.Covers.{edges_of}
use Rattle.cases.specs.Items.{shape_of}
use Rattle.cases.proofs.cases.Case.covers.Given as goal

abbrev pub invariant-loop-atom : goal.invariant-loop-atom
invariant-loop-atom l =
    (l.covering.case.now ≡ l.self)
    × (covered l.self.nodes (shape_of l.self).name (drop l.atom-index l.atoms) (edges_of l.covering.edges) ≡ covered l.self.nodes (shape_of l.self).name l.atoms (shape_of l.self).edge)
