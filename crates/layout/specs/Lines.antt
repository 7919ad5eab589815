-- Meaning: the lines of a text, how a line is written, and which numbers a line holds. Assumes nothing.
use Rattle.std.specs.Prelude.{ℕ, ◌-◌, ◌*◌, ◌<◌, cond, ◌&&◌, List, [], ◌∷◌, ◌++◌, length, take, drop, Some, None, Option, ◌==◌, nat_le, nat_lt, slice_index}
use Rattle.layout.specs.declared.lines.Numbers.{Numbers}
use Rattle.layout.specs.Columns.{column_of, number_in}

-- line k, counted from 1: its 29 bytes, if they all lie in the text
abbrev pub line_of : List ℕ → ℕ → Option (List ℕ)
line_of t k = cond (nat_lt 0 k && nat_le (k * 29) (length t)) (Some (take 29 (drop ((k - 1) * 29) t))) None

-- how a line is written
abbrev pub written : Numbers → List ℕ
written l =
    column_of l.kind ++ (column_of l.operands.first ++ (column_of l.operands.second ++ (column_of l.operands.third
    ++ (column_of l.operands.fourth ++ (column_of l.operands.fifth ++ (column_of l.operands.sixth ++ (10 ∷ [])))))))

-- go on with what is there, if it is there
abbrev pub given : {A B : Type 0} → Option A → (A → Option B) → Option B
given None f = None
given (Some x) f = f x

-- the column that starts behind i bytes
abbrev pub column_at : List ℕ → ℕ → Option ℕ
column_at bs i = number_in (take 4 (drop i bs))

-- the numbers that 29 bytes hold, if each column holds one and the last byte is 10
abbrev pub numbers_in : List ℕ → Option Numbers
numbers_in bs =
    given (column_at bs 0) (λ k. given (column_at bs 4) (λ a. given (column_at bs 8) (λ b. given (column_at bs 12) (λ c.
    given (column_at bs 16) (λ d. given (column_at bs 20) (λ e. given (column_at bs 24) (λ f.
    cond (slice_index bs 28 == 10)
    (Some (record { kind = k; operands = record { first = a; second = b; third = c; fourth = d; fifth = e; sixth = f } }))
    None)))))))

-- each number has at most four digits
pub record Short (l : Numbers) : Type 0 where
  pub kind : l.kind < 10000
  pub first : l.operands.first < 10000
  pub second : l.operands.second < 10000
  pub third : l.operands.third < 10000
  pub fourth : l.operands.fourth < 10000
  pub fifth : l.operands.fifth < 10000
  pub sixth : l.operands.sixth < 10000
