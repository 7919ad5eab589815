-- The lines read so far are the first ones of the text.
use Rattle.std.proofs.Common.{◌≡◌, length, Ok}
use Rattle.layout.specs.Texts.{first_lines}
use Rattle.layout.proofs.texts.scan.Given as goal

abbrev pub invariant-loop-k : goal.invariant-loop-k
invariant-loop-k l = (length l.lines.items ≡ l.k) × (first_lines l.k l.text ≡ Ok l.lines.items)
