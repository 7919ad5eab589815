-- The word that is written is the link.
use Rattle.std.proofs.Common.{arith, rules}
use Rattle.std.proofs.lemmas.Bool.Decides.{nat_tests}
use Rattle.bench.proofs.WordsChange.{held_live, meant-put}
use Rattle.bench.proofs.benches.calls.BenchStore.write.Goals as goal

pub returns-clause-answer : goal.returns-clause-answer
returns-clause-answer c =
    let ws = c.args.self.now.words.now in
    let here = c.in_ok-place.ensures in
    let live = held_live ws c.args.address here.0 in
    let link = c.in_ok-link.ensures in
    let after = meant-put ws c.in_ok-place.place c.args.address c.args.link here.1 (grind (arith, nat_tests)) (omega arith) in
    search rules
