-- Each usable word that holds a link is a live cell.
use Rattle.std.proofs.Common.{arith}
use Rattle.std.proofs.lemmas.List.{take_all}
use Rattle.bench.proofs.WordsChange.{links_live}
use Rattle.bench.proofs.benches.Bench.count.Goals as goal

pub returns : goal.returns
returns c =
    let all = take_all c.loop-word.word-index c.usable-word-items.result.now (omega arith) in
    cc (links_live c.args.self.now.words.now)
