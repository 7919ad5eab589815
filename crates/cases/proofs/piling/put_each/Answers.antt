-- One node more: its case, or none.
use Rattle.std.proofs.Common.{arith}
use Rattle.heap.specs.Piles.{entries}
use Rattle.pieces.specs.ModelChoices.{gather}
use Rattle.cases.proofs.Laying.{laid_length, as_many, gather_room}
use Rattle.cases.proofs.piling.put_each.Goals as goal

pub put_some-requires : goal.put_some-requires
put_some-requires g c =
    let r = c.requires.room in
    let n = as_many r.names r.atoms c.make.result (r.items c.loop-j.j) (r.gives c.loop-j.j c.make.result c.loop-j-test.true c.make.ensures) in
    let l = laid_length r.names r.atoms (gather c.loop-j.j r.items) (entries c.args.pile.now) (entries c.loop-j.pile) (c.loop-j.invariant.0 r.names r.atoms r.items r.gives) in
    let m = gather_room r.items c.loop-j.j c.args.nodes c.loop-j-test.true in
    let e = c.loop-j.invariant.1 in let q = r.room in omega arith
