-- What is laid on the pile so far: the cases of the nodes below j.
use Rattle.std.proofs.Common.{◌≡◌, ℕ, List}
use Rattle.heap.specs.declared.atoms.Atom.{Atom}
use Rattle.heap.specs.Piles.{capacity, entries}
use Rattle.pieces.specs.ModelChoices.{gather}
use Rattle.pieces.specs.ModelStages.{Item}
use Rattle.cases.specs.Items.{LaidAs}
use Rattle.cases.specs.Rooms.{Gives}
use Rattle.cases.proofs.piling.put_each.Given as goal

abbrev pub invariant-loop-j : goal.invariant-loop-j
invariant-loop-j g l =
    ((names : List ℕ) (atoms : List Atom) (f : ℕ → List Item) → Gives (goal.F-post g l.make) l.nodes names atoms f → LaidAs names atoms (gather l.j f) (entries l.initial.pile) (entries l.pile))
    × (capacity l.pile ≡ capacity l.initial.pile)
