-- The name at the nodes that are there leaves room for it at a node of its own.
use Rattle.std.proofs.Common.{◌≡◌, ap, ◌∙◌, arith, rules, length-append}
use Rattle.heap.specs.Piles.{entries}
use Rattle.pieces.specs.declared.shapes.Edge.TheVariants.{Dead}
use Rattle.pieces.specs.ModelChoices.{gather}
use Rattle.pieces.specs.ModelShapes.{add_node}
use Rattle.cases.specs.Items.{shape_of, items_of}
use Rattle.cases.specs.Openings.{placed_at}
use Rattle.cases.proofs.Laying.{laid_length, as_many}
use Rattle.cases.proofs.openings.Opening.place.Goals as goal

pub put_each-requires-clause-room : goal.put_each-requires-clause-room
put_each-requires-clause-room c =
    let o = c.args.self.now in
    let f = placed_at o.names.now o.atoms.now c.args.k c.args.case.row (shape_of c.args.case) in
    let apart = placed_at o.names.now o.atoms.now c.args.k c.args.case.row (add_node (shape_of c.args.case) Dead) c.args.case.nodes in
    let a = length-append apart (gather c.args.case.nodes f) in let q = c.requires.room in
    record { names = o.names.now; atoms = o.atoms.now; items = f; gives = λ j r q p. search rules; room = omega arith }

pub put_some-requires : goal.put_some-requires
put_some-requires c =
    let o = c.args.self.now in
    let f = placed_at o.names.now o.atoms.now c.args.k c.args.case.row (shape_of c.args.case) in
    let apart = placed_at o.names.now o.atoms.now c.args.k c.args.case.row (add_node (shape_of c.args.case) Dead) c.args.case.nodes in
    let e : items_of o.names.now o.atoms.now c.placed_at.result ≡ apart =
    (c.placed_at.ensures
    ∙ (ap (λ r. placed_at o.names.now o.atoms.now c.args.k r (shape_of c.with_node.result) c.args.case.nodes) c.with_node.ensures.row
    ∙ ap (λ u. placed_at o.names.now o.atoms.now c.args.k c.args.case.row u c.args.case.nodes) c.with_node.ensures.shape)) in
    let m = as_many o.names.now o.atoms.now c.placed_at.result apart e in
    let n = laid_length o.names.now o.atoms.now (gather c.args.case.nodes f) (entries c.args.pile.now) (entries c.put_each.new.pile) (c.put_each.ensures.piled o.names.now o.atoms.now f (λ j r q p. search rules)) in
    let a = length-append apart (gather c.args.case.nodes f) in
    let r = c.put_each.ensures.room in let q = c.requires.room in omega arith
