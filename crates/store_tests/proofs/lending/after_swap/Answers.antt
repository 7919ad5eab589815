-- The words at the end are those of the bench when it was let go.
use Rattle.std.proofs.Common.{sym, rules}
use Rattle.store_tests.proofs.TwoCells.{after_swap_lem}
use Rattle.store_tests.proofs.lending.after_swap.Goals as goal

pub returns : goal.returns
returns c =
    let links =
    after_swap_lem (sym c.from-first.ensures) (sym c.from-second.ensures)
    c.in_ok-take.ensures.answer c.in_ok-take-2.ensures.answer
    c.in_ok-write.ensures.answer c.in_ok-swap_links.ensures.answer in
    (search rules, search rules)
