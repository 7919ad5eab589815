-- Meaning: the lines of a whole text, or the number and place of what is wrong with its layout. Assumes nothing.
use Rattle.std.specs.Prelude.{ℕ, zero, suc, ◌*◌, ◌/◌, ◌%◌, Bool, cond, not, ◌||◌, List, [], ◌∷◌, ◌++◌, length, take, drop, Some, None, Ok, Err, Option, Result, ◌==◌, nat_lt}
use Rattle.heap.specs.Faults.{Report, plain}
use Rattle.layout.specs.declared.lines.Numbers.{Numbers}
use Rattle.layout.specs.Lines.{numbers_in}

-- 0, no whole number of lines, or more than 123 lines
abbrev pub bad_length : ℕ → Bool
bad_length n = n == 0 || (not (n % 29 == 0) || nat_lt 3567 n)

-- the bytes of the line behind k lines
abbrev pub behind : List ℕ → ℕ → List ℕ
behind t k = take 29 (drop (k * 29) t)

-- one line more, or its number if its layout is broken
abbrev pub one_more : List Numbers → ℕ → Option Numbers → Result (List Numbers) Report
one_more ls k None = Err (plain 102 (suc k))
one_more ls k (Some l) = Ok (ls ++ l ∷ [])

abbrev pub further : Result (List Numbers) Report → ℕ → List ℕ → Result (List Numbers) Report
further (Err e) k t = Err e
further (Ok ls) k t = one_more ls k (numbers_in (behind t k))

-- the first n lines
abbrev pub first_lines : ℕ → List ℕ → Result (List Numbers) Report
first_lines zero t = Ok []
first_lines (suc n) t = further (first_lines n t) n t

-- all lines, once the length is right
unfoldable pub lines_of : List ℕ → Result (List Numbers) Report
lines_of t = cond (bad_length (length t)) (Err (plain 101 0)) (first_lines (length t / 29) t)
