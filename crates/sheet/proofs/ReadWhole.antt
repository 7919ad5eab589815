-- The parts of reading, put together.
use Rattle.std.proofs.Common.{◌≡◌, ℕ, List, length, Ok, Err, ap, ◌∙◌}
use Rattle.heap.specs.Faults.{Report}
use Rattle.layout.specs.declared.lines.Numbers.{Numbers}
use Rattle.layout.specs.Texts.{lines_of}
use Rattle.sheet.specs.Reading.{Progress, start, onward, all_lines, finished, reading}

-- a broken layout
pub refused_lines : (t : List ℕ) (e : Report) → lines_of t ≡ Err e → reading t ≡ Err e
unfolding reading
refused_lines t e h = ap (λ o. onward o (λ ls. onward (all_lines start 1 ls) (λ p. finished (length ls) p))) h

-- a wrong line
pub refused_line : (t : List ℕ) (ls : List Numbers) (e : Report) → lines_of t ≡ Ok ls → all_lines start 1 ls ≡ Err e → reading t ≡ Err e
unfolding reading
refused_line t ls e h a =
    ap (λ o. onward o (λ ls. onward (all_lines start 1 ls) (λ p. finished (length ls) p))) h
    ∙ ap (λ o. onward o (λ p. finished (length ls) p)) a

-- the tests behind the last line decide
pub decided : (t : List ℕ) (ls : List Numbers) (p : Progress) → lines_of t ≡ Ok ls → all_lines start 1 ls ≡ Ok p → reading t ≡ finished (length ls) p
unfolding reading
decided t ls p h r =
    ap (λ o. onward o (λ ls. onward (all_lines start 1 ls) (λ p. finished (length ls) p))) h
    ∙ ap (λ o. onward o (λ p. finished (length ls) p)) r
