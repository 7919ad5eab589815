-- Meaning: the laws of reading: the format is how a sheet is written, and a refusal names the first thing that is wrong. Assumes nothing.
use Rattle.std.specs.Prelude.{◌≡◌, ℕ, suc, ◌*◌, ◌<◌, ◌≤◌, true, false, cond, ◌⊎◌, List, length, take, Some, None, Ok, Err, nat_lt, slice_index_or}
use Rattle.heap.specs.Faults.{Report, plain}
use Rattle.layout.specs.declared.lines.Numbers.{Numbers}
use Rattle.layout.specs.Lines.{numbers_in}
use Rattle.layout.specs.Texts.{bad_length, behind, lines_of}
use Rattle.sheet.specs.declared.kinds.Entry.{Entry}
use Rattle.sheet.specs.Kinds.{table, entry_for, fits}
use Rattle.sheet.specs.Routines.{Routine}
use Rattle.sheet.specs.Written.{text_of}
use Rattle.sheet.specs.Flow.{misplaced, Heavy}
use Rattle.sheet.specs.Formed.{WellFormed}
use Rattle.sheet.specs.Reading.{Progress, start, due, scope_for, overfull, all_lines, complete, reading}

-- the text of a well-formed routine reads as that routine
abbrev pub TextReads : Type 0
TextReads = (R : Routine) → WellFormed R → reading (text_of R) ≡ Ok R

-- a text that reads is the text of the routine that it reads as, and that is well formed
abbrev pub ReadsText : Type 0
ReadsText = (t : List ℕ) (R : Routine) → reading t ≡ Ok R → WellFormed R × (t ≡ text_of R)

-- the k lines ahead of a line are all right, and say p; the line itself is l
pub record Judged (t : List ℕ) (k : ℕ) (p : Progress) (l : Numbers) : Type 0 where
  pub lines : List Numbers
  pub read : lines_of t ≡ Ok lines
  pub inside : k < length lines
  pub says : all_lines start 1 (take k lines) ≡ Ok p
  pub line : l ≡ slice_index_or lines k l

-- all lines are there and right, and say R
pub record Whole (t : List ℕ) (R : Routine) : Type 0 where
  pub lines : List Numbers
  pub read : lines_of t ≡ Ok lines
  pub progress : Progress
  pub says : all_lines start 1 lines ≡ Ok progress
  pub full : complete progress ≡ true
  pub routine : progress.routine ≡ R

-- the condition of each number, at its place
pub data Condition (t : List ℕ) : ℕ → ℕ → Type 0 where
  wrong_length : bad_length (length t) ≡ true → Condition t 101 0
  broken_line : {k : ℕ} → bad_length (length t) ≡ false → suc k * 29 ≤ length t → numbers_in (behind t k) ≡ None → Condition t 102 (suc k)
  no_kind : {k : ℕ} {p : Progress} {l : Numbers} → Judged t k p l → entry_for l.kind table ≡ None → Condition t 111 (suc k)
  not_due : {k : ℕ} {p : Progress} {l : Numbers} {e : Entry} → Judged t k p l → entry_for l.kind table ≡ Some e → due p e.role ≡ false → Condition t 111 (suc k)
  missing : {p : Progress} (ls : List Numbers) → lines_of t ≡ Ok ls → all_lines start 1 ls ≡ Ok p → complete p ≡ false → Condition t 111 (suc (length ls))
  bad_operand : {k : ℕ} {p : Progress} {l : Numbers} {e : Entry} → Judged t k p l → entry_for l.kind table ≡ Some e → fits (scope_for p e.role l.operands) e.classes l.operands ≡ false → Condition t 112 (suc k)
  too_many : {k : ℕ} {p : Progress} {l : Numbers} {e : Entry} → Judged t k p l → entry_for l.kind table ≡ Some e → overfull p e.role ≡ true → Condition t 113 (suc k)
  wrong_place : {R : Routine} {i : ℕ} → Whole t R → 1 ≤ i → i ≤ length R.rows → misplaced R.rows i ≡ true → Condition t 114 i
  too_heavy : {R : Routine} {p : ℕ} → Whole t R → Heavy R.rows p → Condition t 115 p

-- the order of tests: the length, all lines' layout, the lines one by one, the rows' places, the pieces' weights
abbrev pub turn : ℕ → ℕ
turn n = cond (nat_lt n 102) 0 (cond (nat_lt n 111) 1 (cond (nat_lt n 114) 2 (cond (nat_lt n 115) 3 4)))

abbrev pub Ahead : ℕ → ℕ → ℕ → ℕ → Type 0
Ahead m q n p = (turn m < turn n) ⊎ ((turn m ≡ turn n) × ((q < p) ⊎ ((q ≡ p) × (m < n))))

-- the number and place are the first whose condition holds
pub record First (t : List ℕ) (e : Report) : Type 0 where
  pub number : ℕ
  pub place : ℕ
  pub fault : e ≡ plain number place
  pub holds : Condition t number place
  pub none_ahead : (m q : ℕ) → Ahead m q number place → Condition t m q → ⊥

abbrev pub RefusalsFirst : Type 0
RefusalsFirst = (t : List ℕ) (e : Report) → reading t ≡ Err e → First t e
