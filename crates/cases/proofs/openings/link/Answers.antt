-- The ways over a node leave room for the straight one.
use Rattle.std.proofs.Common.{[], length, drop, arith, rules}
use Rattle.heap.specs.Piles.{capacity, entries}
use Rattle.pieces.specs.ModelChoices.{gather}
use Rattle.pieces.specs.ModelStages.{laid}
use Rattle.cases.specs.Items.{shape_of}
use Rattle.cases.proofs.Laying.{laid_length, room_by}
use Rattle.cases.proofs.openings.link.Goals as goal

pub put_each-requires-clause-room : goal.put_each-requires-clause-room
put_each-requires-clause-room c =
    let f = laid (shape_of c.args.case) c.args.i c.args.j (drop c.args.next c.requires.room.0) c.args.case.row in
    let q = room_by _ c.is_spare.result _ (gather c.args.case.nodes f) (length (entries c.args.pile.now)) (capacity c.args.pile.now) c.is_spare.ensures c.if-is_spare.true c.requires.room.1 in
    record { names = []; atoms = c.requires.room.0; items = f; gives = λ j r q p. search rules; room = omega arith }

pub put-requires : goal.put-requires
put-requires c =
    let f = laid (shape_of c.args.case) c.args.i c.args.j (drop c.args.next c.requires.room.0) c.args.case.row in
    let n = laid_length [] c.requires.room.0 (gather c.args.case.nodes f) (entries c.args.pile.now) (entries c.put_each.new.pile) (c.put_each.ensures.piled [] c.requires.room.0 f (λ j r q p. search rules)) in
    let r = c.put_each.ensures.room in
    let q = room_by _ c.is_spare.result _ (gather c.args.case.nodes f) (length (entries c.args.pile.now)) (capacity c.args.pile.now) c.is_spare.ensures c.if-is_spare.true c.requires.room.1 in omega arith
