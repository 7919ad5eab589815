-- Meaning: how a number is written in a column of four bytes, and which number a column holds. Assumes nothing.
use Rattle.std.specs.Prelude.{ℕ, ◌+◌, ◌-◌, ◌*◌, ◌/◌, ◌%◌, cond, ◌&&◌, List, [], ◌∷◌, Some, None, Option, nat_lt, slice_index}
use Rattle.std.specs.Str.{bytes_eq}

-- the byte of the last digit
abbrev pub digit_of : ℕ → ℕ
digit_of n = n % 10 + 48

-- right-justified with spaces, without leading zeros; four stars for what four digits cannot write
abbrev pub column_of : ℕ → List ℕ
column_of n =
    cond (nat_lt n 10) (32 ∷ 32 ∷ 32 ∷ digit_of n ∷ [])
    (cond (nat_lt n 100) (32 ∷ 32 ∷ digit_of (n / 10) ∷ digit_of n ∷ [])
    (cond (nat_lt n 1000) (32 ∷ digit_of (n / 100) ∷ digit_of (n / 10) ∷ digit_of n ∷ [])
    (cond (nat_lt n 10000) (digit_of (n / 1000) ∷ digit_of (n / 100) ∷ digit_of (n / 10) ∷ digit_of n ∷ [])
    (42 ∷ 42 ∷ 42 ∷ 42 ∷ []))))

-- the sum of the four digits by their places, a space counting as none
abbrev pub value_of : List ℕ → ℕ
value_of w = (slice_index w 0 - 48) * 1000 + (slice_index w 1 - 48) * 100 + (slice_index w 2 - 48) * 10 + (slice_index w 3 - 48)

-- the number that is written so, if there is one
abbrev pub number_in : List ℕ → Option ℕ
number_in w = cond (nat_lt (value_of w) 10000 && bytes_eq (column_of (value_of w)) w) (Some (value_of w)) None
