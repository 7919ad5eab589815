-- What `all` answers, over the edges of the first nodes.
use Rattle.std.proofs.Common.{◌∙◌, take, arith, rules}
use Rattle.std.proofs.lemmas.Iterator.{YieldsList-from_slice}
use Rattle.std.proofs.lemmas.Iterator.Search.{all_from_yields_List}
use Rattle.pieces.specs.ModelCover.{is_dead}
use Rattle.cases.proofs.Tests.{all_of_first}
use Rattle.cases.proofs.covering.Covering.is_done.Goals as goal

pub returns : goal.returns
returns c =
    let s = c.args.self.now in let n = s.case.now.narrow in
    all_from_yields_List is_dead _ _ c.all.result c.all.ensures.ran (YieldsList-from_slice (take s.case.now.nodes s.edges) cc) (λ x b q k. search rules)
    ∙ all_of_first s.case.now.nodes s.edges (omega arith)
