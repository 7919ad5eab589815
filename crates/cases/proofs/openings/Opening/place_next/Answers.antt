-- By the index: the next name, or all are placed.
use Rattle.cases.specs.Items.{shape_of}
use Rattle.cases.proofs.Behind.{behind_placing}
use Rattle.cases.proofs.openings.Opening.place_next.Goals as goal

pub place-requires-clause-room : goal.place-requires-clause-room
place-requires-clause-room c =
    let e = behind_placing c.args.self.now.names.now c.args.self.now.atoms.now c.args.k c.args.case.row (shape_of c.args.case) (rw c.from.ensures at c.if-from-self.true) in
    rw e at c.requires.room

pub returns-then-from-self-clause-piled : goal.returns-then-from-self-clause-piled
returns-then-from-self-clause-piled c =
    let e = behind_placing c.args.self.now.names.now c.args.self.now.atoms.now c.args.k c.args.case.row (shape_of c.args.case) (rw c.from.ensures at c.if-from-self.true) in
    rw e c.place.ensures.piled
