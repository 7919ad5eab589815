-- The places so far are blank.
use Rattle.std.proofs.Common.{◌≡◌, replicate, take}
use Rattle.store.proofs.shared.clear.Given as goal

abbrev pub invariant-loop-place : goal.invariant-loop-place
invariant-loop-place g l = take l.place-index l.places ≡ replicate l.place-index l.blank
