-- One edge taken.
use Rattle.std.proofs.Common.{◌<◌, length, rules}
use Rattle.cases.proofs.covering.Covering.walk.Goals as goal
use Rattle.cases.proofs.Walks.{went_on, inside_set}

pub invariant_of-self-clause-inside : goal.invariant_of-self-clause-inside
invariant_of-self-clause-inside c = let s = c.loop-step.self in inside_set s.case.now.nodes s.edges c.from-at.result (search rules) s.inside

pub loop-step-preserved : goal.loop-step-preserved
loop-step-preserved c =
    let l = c.loop-step in let s = l.self in
    let q : l.i < length s.edges = search rules in
    let is = rw c.from-at.ensures at c.in-Cell.is in
    rw c.from-at.ensures (
      s.inside l.i c.in-Cell.next l.invariant.0 is,
      l.invariant.1,
      went_on s.edges l.i s.case.now.nodes l._step _ c.args.to c.in-Cell.next q (search rules) l.invariant.2 c.if-i-to.false is,
    )
