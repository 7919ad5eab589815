-- A live cell is one step more.
use Rattle.std.proofs.Common.{◌≡◌, suc, ◌+◌, ◌-◌, arith, rules}
use Rattle.walk.proofs.Walks.{steps-more}
use Rattle.walk.proofs.follow.Goals as goal

pub loop-count-preserved : goal.loop-count-preserved
loop-count-preserved g c =
    let h = (g.S.Store.meaning c.args.store.now).heap in
    let left : c.args.most - c.loop-count.count ≡ suc (c.args.most - (c.loop-count.count + 1)) = omega arith in
    let link = c.in-Ok.ensures.answer.link in
    let more = steps-more h (c.args.most - c.loop-count.count) (c.args.most - (c.loop-count.count + 1)) c.loop-count.at c.in-Ok.link left (rw c.loop-count.invariant.0 at link) in
    let at = c.from-at.ensures in
    (search rules, search rules, rw at (omega (arith, more)))
