-- One edge less.
use Rattle.std.proofs.Common.{rules}
use Rattle.cases.proofs.Walks.{inside_set}
use Rattle.cases.proofs.covering.Covering.take_cell.Goals as goal

pub invariant_of-self-clause-inside : goal.invariant_of-self-clause-inside
invariant_of-self-clause-inside c = inside_set c.args.self.now.case.now.nodes c.args.self.now.edges c.from-at.result (search rules) c.args.self.now.inside
