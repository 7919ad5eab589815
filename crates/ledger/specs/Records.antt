-- Meaning: what the records of a ledger mean, and what each call leaves in them. Assumes nothing.
use Rattle.std.specs.Prelude.{◌≡◌, ℕ, ◌+◌, ◌<◌, ◌≤◌, Bool, true, false, cond, not, ◌&&◌, ◌||◌, List, [], ◌∷◌, length, is_some, Some, None, Option, MatchOption, ◌==◌, ◌≢◌, nat_le, nat_lt, slice_index_or}
use Rattle.std.specs.List.{position_or_len}
use Rattle.heap.specs.Heaps.{Heap}
use Rattle.ledger.specs.declared.records.Record.{Record}
use Rattle.store.specs.Meanings.{Kinds, live_cells, Meaning}
use Rattle.store.specs.Shared.{cleared_up_to, fitting_up_to, size_up_to, usable_up_to}

abbrev pub unused : Record
unused = record { address = 0; link = 0 }

-- the lengths that a ledger's list of records can have
abbrev pub fitting : ℕ → Bool
fitting n = fitting_up_to 512 n

-- how many cells n records can hold: one each, and none if n is a wrong length
abbrev pub size : ℕ → ℕ
size n = size_up_to 512 n

-- the highest address over n records
abbrev pub top_of : ℕ → ℕ
top_of n = cond (fitting n) 4095 0

-- the records that cells can lie in: all, and none if their number is wrong
abbrev pub usable : List Record → List Record
usable rs = usable_up_to 512 rs

-- the link of a is that of the first record of a; 0 is the address of no cell
abbrev pub cells : List Record → Heap
cells [] a = None
cells (r ∷ rs) a = cond (nat_le 1 a && a == r.address) (Some r.link) (cells rs a)

-- the place of the first record with the address a, and the length if there is none; that of 0 is the first unused record
abbrev pub place : List Record → ℕ → ℕ
place rs a = position_or_len (λ r. a == r.address) rs

-- how many records are in use
abbrev pub used : List Record → ℕ
used [] = 0
used (r ∷ rs) = cond (nat_le 1 r.address) 1 0 + used rs

-- whether r is a cell with a link, or unused
abbrev pub proper : Record → Bool
proper r = nat_le r.address 4095 && (nat_le r.link 65534 && (nat_le 1 r.address || r.link == 0))

-- whether every record is proper, and no two in use have the same address
abbrev pub sound : List Record → Bool
sound [] = true
sound (r ∷ rs) = proper r && (not (is_some (cells rs r.address)) && sound rs)

-- the store that the records are
abbrev pub meant : List Record → Meaning
meant rs = record { heap = cells (usable rs); top = top_of (length rs); capacity = size (length rs) }

-- the kind in every fault of a ledger
abbrev pub ledger_kinds : Kinds
ledger_kinds number arguments = 2

-- the records when the ledger is made: all unused, and as they were if there is a wrong number of them
abbrev pub cleared : List Record → List Record
cleared rs = cleared_up_to 512 unused rs

-- record i is that of the cell a, the first with this address
pub record IsCell (rs : List Record) (a i : ℕ) : Type 0 where
  pub low : 1 ≤ a
  pub high : a ≤ 4095
  pub within : i < size (length rs)
  pub first : i ≡ place rs a
  pub address : (slice_index_or rs i unused).address ≡ a
  pub link : cells (usable rs) a ≡ Some (slice_index_or rs i unused).link

-- the cells are the records in use, each with its address and link, and no two of them have the same address
pub record Mirrors (rs : List Record) : Type 0 where
  pub cell : (a : ℕ) → is_some (cells (usable rs) a) ≡ true → (i : ℕ) × IsCell rs a i
  pub own : (i : ℕ) → i < size (length rs) → 1 ≤ (slice_index_or rs i unused).address → cells (usable rs) (slice_index_or rs i unused).address ≡ Some (slice_index_or rs i unused).link
  pub apart : (i j : ℕ) → i < j → j < size (length rs) → 1 ≤ (slice_index_or rs i unused).address → (slice_index_or rs i unused).address ≢ (slice_index_or rs j unused).address

-- record i is the first unused one, so that fewer cells are live than there are records
pub record IsUnused (rs : List Record) (i : ℕ) : Type 0 where
  pub within : i < size (length rs)
  pub first : i ≡ place rs 0
  pub address : (slice_index_or rs i unused).address ≡ 0
  pub room : live_cells (meant rs) < size (length rs)

-- what the search for the first record with the address a tells: its place, or none
pub record Found (rs : List Record) (a : ℕ) (place : Option ℕ) : Type 0 where
  pub cell : 1 ≤ a → MatchOption place (is_some (cells (usable rs) a) ≡ false) (λ i. IsCell rs a i)
  pub nil : a ≡ 0 → is_some (cells (usable rs) a) ≡ false
  pub unused : a ≡ 0 → MatchOption place (live_cells (meant rs) ≡ size (length rs)) (λ i. IsUnused rs i)

-- whether record i can become that of the cell a: it is already, or it is unused and a is dead
abbrev pub vacant : List Record → ℕ → ℕ → Bool
vacant rs i a = (slice_index_or rs i unused).address == a || ((slice_index_or rs i unused).address == 0 && not (is_some (cells (usable rs) a)))

-- the addresses from l on and below m are live
abbrev pub AllLive : List Record → ℕ → ℕ → Type 0
AllLive rs l m = (k : ℕ) → l ≤ k → k < m → is_some (cells (usable rs) k) ≡ true

-- a is the first address from l on that is not live
pub record FirstDead (rs : List Record) (l a : ℕ) : Type 0 where
  pub low : l ≤ a
  pub high : a ≤ 4095
  pub dead : is_some (cells (usable rs) a) ≡ false
  pub before : AllLive rs l a

-- whether k is passed on the way from the address l to a, where 4,095 is followed by 1
abbrev pub passed : ℕ → ℕ → ℕ → Bool
passed l a k = cond (nat_lt l a) (nat_lt l k && nat_lt k a) (nat_lt l k || nat_lt k a)

-- a is the first address behind l that is not live
pub record NextDead (rs : List Record) (l a : ℕ) : Type 0 where
  pub low : 1 ≤ a
  pub high : a ≤ 4095
  pub dead : is_some (cells (usable rs) a) ≡ false
  pub between : (k : ℕ) → 1 ≤ k → k ≤ 4095 → passed l a k ≡ true → is_some (cells (usable rs) k) ≡ true
