-- The walk's test is the one that unfolds a segment; the theorems hold of every segment.
use Rattle.std.proofs.Common.{rules}
use Rattle.heap.proofs.Unfolding.{unfolds, end_is_no_cell, nil_is_no_cell, over_at_end, starts_before_end}
use Rattle.heap.proofs.segments.at_end.Goals as goal

pub returns : goal.returns
returns c =
    record {
      value = search rules;
      over = over_at_end _ c.args.at c.args.end (search rules);
      further = starts_before_end _ c.args.at c.args.end (search rules);
      unfolds = unfolds;
      closed = end_is_no_cell;
      nil = nil_is_no_cell;
    }
