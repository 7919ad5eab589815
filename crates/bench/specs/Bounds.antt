-- Proof: every list of words keeps the bounds of a store.
use Rattle.std.specs.Prelude.{◌≡◌, ℕ, ◌≤◌, List, length, Some}
use Rattle.std.proofs.Common.{arith}
use Rattle.std.proofs.lemmas.Bool.Decides.{nat_tests}
use Rattle.store.proofs.Counting.{live_most}
use Rattle.store.proofs.Lists.{size_most}
use Rattle.store.specs.Meanings.{Bounded}
use Rattle.bench.specs.Words.{cells, meant, size}

low : (ws : List ℕ) (a l : ℕ) → cells ws a ≡ Some l → 1 ≤ a
low ws a l e = grind (arith, nat_tests)

high : (ws : List ℕ) (a l : ℕ) → cells ws a ≡ Some l → a ≤ size (length ws)
high ws a l e = grind (arith, nat_tests)

link : (ws : List ℕ) (a l : ℕ) → cells ws a ≡ Some l → l ≤ 65534
link ws a l e = grind (arith, nat_tests)

pub bounded : (ws : List ℕ) → Bounded (meant ws)
bounded ws = record {
  low = low ws;
  high = high ws;
  links = link ws;
  cells = live_most (cells ws) (size (length ws));
  room = omega arith;
  top = omega (arith, size_most 4095 (length ws));
}
