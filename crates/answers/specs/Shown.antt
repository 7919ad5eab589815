-- Meaning: the bytes of the lines that programs print. Assumes nothing.
use Rattle.std.specs.Prelude.{ℕ, List, [], ◌∷◌, ◌++◌, take}
use Rattle.layout.specs.Columns.{column_of}
use Rattle.answers.specs.declared.shown.Shown.{Shown}

-- what a line shows
abbrev pub shown : Shown → List ℕ
shown l = take l.count l.bytes

-- two columns and the end of the line
abbrev pub answer_line : ℕ → ℕ → List ℕ
answer_line number place = column_of number ++ (column_of place ++ (10 ∷ []))
