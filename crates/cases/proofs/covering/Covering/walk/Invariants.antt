-- The walk that is left gives what the whole walk gives.
use Rattle.std.proofs.Common.{◌≡◌, ◌-◌, ◌<◌}
use Rattle.pieces.specs.ModelCover.{walk}
use Rattle.cases.specs.Covers.{edges_of}
use Rattle.cases.proofs.covering.Covering.walk.Given as goal

abbrev pub invariant-loop-step : goal.invariant-loop-step
invariant-loop-step l =
    (l.i < l.self.case.now.nodes) × (l.self.case ≡ l.initial.self.case)
    × (walk (l.self.case.now.nodes - l._step) (edges_of l.self.edges) l.i l.to ≡ walk l.initial.self.case.now.nodes (edges_of l.initial.self.edges) l.initial.i l.to)
