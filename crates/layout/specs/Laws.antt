-- Meaning: which texts are read, which are refused and where, in terms of how lines are written. Assumes nothing.
use Rattle.std.specs.Prelude.{◌≡◌, ℕ, suc, ◌*◌, ◌<◌, ◌≤◌, true, false, ◌⊎◌, List, length, Some, None, Ok, Err, ◌≢◌}
use Rattle.std.specs.List.{flat_map, AllByRecursion}
use Rattle.heap.specs.Faults.{Report, plain}
use Rattle.layout.specs.declared.lines.Numbers.{Numbers}
use Rattle.layout.specs.Lines.{written, numbers_in, Short}
use Rattle.layout.specs.Texts.{bad_length, behind, lines_of}

-- the text is these lines, written one after another
pub record TextOf (t : List ℕ) (ls : List Numbers) : Type 0 where
  pub short : AllByRecursion Short ls
  pub text : t ≡ flat_map written ls
  pub some_line : 0 < length ls
  pub few : length ls ≤ 123

-- no whole number of lines from 1 to 123
pub record BadLength (t : List ℕ) (e : Report) : Type 0 where
  pub unfit : bad_length (length t) ≡ true
  pub fault : e ≡ plain 101 0

-- behind j lines that hold numbers stands one that holds none, and the fault has its place, counted from 1
pub record BadLine (t : List ℕ) (e : Report) : Type 0 where
  pub j : ℕ
  pub good_length : bad_length (length t) ≡ false
  pub inside : suc j * 29 ≤ length t
  pub fault : e ≡ plain 102 (suc j)
  pub broken : numbers_in (behind t j) ≡ None
  pub fine_ahead : (i : ℕ) → i < j → (l : Numbers) × (numbers_in (behind t i) ≡ Some l)

abbrev pub Refused : List ℕ → Report → Type 0
Refused t e = BadLength t e ⊎ BadLine t e

-- what was written is read back
abbrev pub TextsRead : Type 0
TextsRead = (ls : List Numbers) → AllByRecursion Short ls → 0 < length ls → length ls ≤ 123 → lines_of (flat_map written ls) ≡ Ok ls

-- what is read was written
abbrev pub TextsWritten : Type 0
TextsWritten = (t : List ℕ) (ls : List Numbers) → lines_of t ≡ Ok ls → TextOf t ls

-- what is refused has the fault that the report names, and none ahead of it
abbrev pub TextsRefused : Type 0
TextsRefused = (t : List ℕ) (e : Report) → lines_of t ≡ Err e → Refused t e

-- a line that holds no numbers is not how any line is written
abbrev pub BrokenLineIsNoneWritten : Type 0
BrokenLineIsNoneWritten = (bs : List ℕ) → length bs ≡ 29 → numbers_in bs ≡ None → (l : Numbers) → Short l → bs ≢ written l
