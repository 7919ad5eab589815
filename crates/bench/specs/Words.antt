-- Meaning: what the words of a bench mean, and what each call leaves in them. Assumes nothing.
use Rattle.std.specs.Prelude.{◌≡◌, ℕ, ◌-◌, ◌<◌, ◌≤◌, Bool, true, cond, ◌&&◌, List, length, Some, None, Result, nat_le, nat_lt, slice_index, slice_index_or}
use Rattle.heap.specs.Heaps.{Heap}
use Rattle.heap.specs.declared.faults.Fault.{Fault}
use Rattle.store.specs.Shared.{cleared_up_to, fitting_up_to, size_up_to, TestsUpTo, usable_up_to}
use Rattle.store.specs.Meanings.{Kinds, Meaning}

-- the lengths that a bench's list of words can have
abbrev pub fitting : ℕ → Bool
fitting n = fitting_up_to 4095 n

-- how many cells n words make: one each, and none if n is a wrong length
abbrev pub size : ℕ → ℕ
size n = size_up_to 4095 n

-- the words that make cells: all, and none if their number is wrong
abbrev pub usable : List ℕ → List ℕ
usable ws = usable_up_to 4095 ws

-- whether word a - 1 holds a link: words have 16 bits, and 65,535 says that the cell is dead
abbrev pub held : List ℕ → ℕ → Bool
held ws a = nat_le 1 a && (nat_le a (size (length ws)) && nat_lt (slice_index ws (a - 1)) 65535)

-- cell a is word a - 1
abbrev pub cells : List ℕ → Heap
cells ws a = cond (held ws a) (Some (slice_index ws (a - 1))) None

-- the store that the words are
abbrev pub meant : List ℕ → Meaning
meant ws = record { heap = cells ws; top = size (length ws); capacity = size (length ws) }

-- the kind in every fault of a bench
abbrev pub bench_kinds : Kinds
bench_kinds number arguments = 1

-- the words when the bench is made: all dead, and as they were if there is a wrong number of them
abbrev pub cleared : List ℕ → List ℕ
cleared ws = cleared_up_to 4095 65535 ws

-- every cell above a is live
abbrev pub LiveAbove : List ℕ → ℕ → Type 0
LiveAbove ws a = (k : ℕ) → a < k → k ≤ size (length ws) → held ws k ≡ true

-- a is the highest dead cell
pub record HighestDead (ws : List ℕ) (a : ℕ) : Type 0 where
  pub low : 1 ≤ a
  pub high : a ≤ size (length ws)
  pub dead : slice_index_or ws (a - 1) 0 ≡ 65535
  pub above : LiveAbove ws a

-- the test before making: nothing, or 144 at a wrong length
abbrev pub Tests : {U : Type 0} → ℕ → Result U Fault → Type 0
Tests n r = TestsUpTo 4095 1 n r
