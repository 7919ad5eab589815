-- Proof: records that are sound keep the bounds of a store.
use Rattle.std.specs.Prelude.{◌≡◌, ℕ, ◌≤◌, true, List, [], ◌∷◌, length, Some}
use Rattle.std.proofs.Common.{arith}
use Rattle.ledger.specs.declared.records.Record.{Record}
use Rattle.std.proofs.lemmas.Bool.Decides.{nat_tests}
use Rattle.store.proofs.Lists.{length-usable}
use Rattle.store.specs.Meanings.{Bounded}
use Rattle.ledger.specs.Counts.{live_usable, used_most}
use Rattle.ledger.specs.Records.{cells, meant, size, sound, top_of, usable}

-- what a cell's record says of it
pub record Cell (a l : ℕ) : Type 0 where
  pub low : 1 ≤ a
  pub high : a ≤ 4095
  pub link : l ≤ 65534

cell_low : (rs : List Record) (a l : ℕ) → cells rs a ≡ Some l → 1 ≤ a
cell_low [] a l e = cc
cell_low (r ∷ rs) a l e = let before = cell_low rs a l in grind (arith, nat_tests)

cell_high : (rs : List Record) (a l : ℕ) → sound rs ≡ true → cells rs a ≡ Some l → a ≤ 4095
cell_high [] a l fine e = cc
cell_high (r ∷ rs) a l fine e = let before = cell_high rs a l in grind (arith, nat_tests)

cell_link : (rs : List Record) (a l : ℕ) → sound rs ≡ true → cells rs a ≡ Some l → l ≤ 65534
cell_link [] a l fine e = cc
cell_link (r ∷ rs) a l fine e = let before = cell_link rs a l in grind (arith, nat_tests)

pub cell : (rs : List Record) (a l : ℕ) → sound rs ≡ true → cells rs a ≡ Some l → Cell a l
cell rs a l fine e = record { low = cell_low rs a l e; high = cell_high rs a l fine e; link = cell_link rs a l fine e }

-- a cell in a list of a wrong length there is not, so that the top is 4,095
high_usable : (rs : List Record) (a l : ℕ) → a ≤ 4095 → cells (usable rs) a ≡ Some l → a ≤ top_of (length rs)
high_usable rs a l most e = grind (arith, nat_tests)

size_top : (n : ℕ) → size n ≤ top_of n
size_top n = grind (arith, nat_tests)

top_most : (n : ℕ) → top_of n ≤ 65534
top_most n = grind (arith, nat_tests)

pub bounded : (rs : List Record) → sound (usable rs) ≡ true → Bounded (meant rs)
bounded rs fine = record {
  low = λ a l e. (cell (usable rs) a l fine e).low;
  high = λ a l e. high_usable rs a l (cell (usable rs) a l fine e).high e;
  links = λ a l e. (cell (usable rs) a l fine e).link;
  cells = omega (arith, live_usable rs fine, used_most (usable rs), length-usable 512 rs);
  room = size_top (length rs);
  top = top_most (length rs);
}
