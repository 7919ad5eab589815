-- The cases at dead nodes leave room for the one at a new node.
use Rattle.std.proofs.Common.{[], arith, rules}
use Rattle.heap.specs.Piles.{entries}
use Rattle.pieces.specs.ModelChoices.{gather}
use Rattle.cases.specs.Items.{shape_of}
use Rattle.cases.specs.Steps.{new_at}
use Rattle.cases.proofs.Laying.{laid_length}
use Rattle.cases.proofs.stepping.allocate.Goals as goal

pub put_each-requires-clause-room : goal.put_each-requires-clause-room
put_each-requires-clause-room c = record {
  names = [];
  atoms = [];
  items = new_at c.args.x c.args.case.row (shape_of c.args.case);
  gives = λ j r q p. search rules;
  room = let q = c.requires.room in omega arith;
}

pub put-requires : goal.put-requires
put-requires c =
    let f = new_at c.args.x c.args.case.row (shape_of c.args.case) in
    let n = laid_length [] [] (gather c.args.case.nodes f) (entries c.args.pile.now) (entries c.put_each.new.pile) (c.put_each.ensures.piled [] [] f (λ j r q p. search rules)) in
    let r = c.put_each.ensures.room in let q = c.requires.room in omega arith
