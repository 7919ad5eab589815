-- Meaning: the line that says what a sheet holds, and the counts behind it. Assumes nothing.
use Rattle.std.specs.Prelude.{ℕ, ◌+◌, List, [], ◌∷◌, ◌++◌, length, Ok, Err, codes, Result}
use Rattle.heap.specs.Faults.{Report}
use Rattle.layout.specs.Columns.{column_of}
use Rattle.answers.specs.Shown.{answer_line}
use Rattle.sheet.specs.Routines.{Routine, total}
use Rattle.sheet.specs.declared.rows.Row.{Row}
use Rattle.sheet.specs.declared.rows.Row.TheVariants.{Set, Load, Store, New, Free, Jump, Branch, Cut, Call, Done}

-- a word, and a number in a column behind it
abbrev pub item : List ℕ → ℕ → List ℕ
item label n = label ++ column_of n

abbrev pub summary_of : ℕ → ℕ → ℕ → ℕ → ℕ → ℕ → List ℕ
summary_of own variables arguments ghosts rows atoms =
    item (codes "routine") own ++ (item (codes " variables") variables ++ (item (codes " arguments") arguments
    ++ (item (codes " ghosts") ghosts ++ (item (codes " rows") rows ++ (item (codes " atoms") atoms ++ (10 ∷ []))))))

abbrev pub summary_line : Routine → List ℕ
summary_line R = summary_of R.own R.variables R.arguments R.ghosts (length R.rows) (total R)

-- what is printed for a text, by how it reads
abbrev pub line_for : Result Routine Report → List ℕ
line_for (Ok R) = summary_line R
line_for (Err e) = answer_line e.number e.place

-- how many atoms lie behind a row, and behind all rows
abbrev pub count_row : Row → ℕ
count_row (Set x e) = 0
count_row (Load x y) = 0
count_row (Store x e) = 0
count_row (New x) = 0
count_row (Free x) = 0
count_row (Jump r) = 0
count_row (Branch e f r) = 0
count_row (Cut l) = l.count
count_row (Call x q y z s t l) = l.count
count_row Done = 0

abbrev pub count_rows : List Row → ℕ
count_rows [] = 0
count_rows (r ∷ rs) = count_row r + count_rows rs
