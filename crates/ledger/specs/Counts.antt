-- Proof: as many cells are live as records are in use.
use Rattle.std.specs.Prelude.{◌≡◌, ℕ, zero, suc, ◌+◌, ◌≤◌, Bool, true, false, cond, List, [], ◌∷◌, length, is_some, None, ◌≢◌, refl}
use Rattle.std.proofs.Common.{arith}
use Rattle.heap.specs.Heaps.{Heap}
use Rattle.ledger.specs.declared.records.Record.{Record}
use Rattle.std.proofs.lemmas.Bool.Decides.{nat_tests}
use Rattle.store.specs.Meanings.{live_below}
use Rattle.ledger.specs.Records.{cells, fitting, sound, top_of, usable, used}

-- heaps with the same live addresses up to n have as many
live_same : (h k : Heap) (n : ℕ) → ((a : ℕ) → 1 ≤ a → a ≤ n → is_some (k a) ≡ is_some (h a)) → live_below k n ≡ live_below h n
live_same h k zero same = refl
live_same h k (suc n) same =
    let before = live_same h k n (λ a low high. same a low (omega arith)) in
    let here = same (suc n) (omega arith) (omega arith) in
    grind (arith, nat_tests)

-- one live address more, at the top or below it
live_more : (h k : Heap) (a n : ℕ) → is_some (h a) ≡ false → is_some (k a) ≡ true → ((b : ℕ) → b ≢ a → is_some (k b) ≡ is_some (h b)) → 1 ≤ a → a ≤ n → live_below k n ≡ 1 + live_below h n
live_more h k a zero dead live same low high = absurd (omega arith)
live_more h k a (suc n) dead live same low high =
    let before = live_more h k a n dead live same low in
    let below : suc n ≡ a → live_below k n ≡ live_below h n = λ e. live_same h k n (λ b _ most. same b (λ z. omega arith)) in
    let here = same (suc n) in
    grind (arith, nat_tests)

pub used_most : (rs : List Record) → used rs ≤ length rs
used_most [] = omega arith
used_most (r ∷ rs) = let before = used_most rs in grind (arith, nat_tests)

-- nil is no cell's address
pub nil_dead : (rs : List Record) → cells rs 0 ≡ None
nil_dead [] = refl
nil_dead (r ∷ rs) = nil_dead rs

no_cells : (n : ℕ) → live_below (cells []) n ≡ 0
no_cells zero = refl
no_cells (suc n) = omega (arith, no_cells n)

-- the record r has a link for its own address, and says nothing of another
own : (r : Record) (rs : List Record) → 1 ≤ r.address → is_some (cells (r ∷ rs) r.address) ≡ true
own r rs low = grind (arith, nat_tests)

other : (r : Record) (rs : List Record) (a : ℕ) → (1 ≤ r.address → a ≢ r.address) → is_some (cells (r ∷ rs) a) ≡ is_some (cells rs a)
other r rs a ne = grind (arith, nat_tests)

-- as many addresses are live as records are in use, since those have addresses of their own
pub live_used : (n : ℕ) → 4095 ≤ n → (rs : List Record) → sound rs ≡ true → live_below (cells rs) n ≡ used rs
live_used n most [] fine = no_cells n
live_used n most (r ∷ rs) fine =
    let before = live_used n most rs in
    let in_use : 1 ≤ r.address → r.address ≤ 4095 → is_some (cells rs r.address) ≡ false → live_below (cells (r ∷ rs)) n ≡ 1 + live_below (cells rs) n = λ low high dead. live_more (cells rs) (cells (r ∷ rs)) r.address n dead (own r rs low) (λ b ne. other r rs b (λ _. ne)) low (omega arith) in
    let idle : r.address ≡ 0 → live_below (cells (r ∷ rs)) n ≡ live_below (cells rs) n = λ z. live_same (cells rs) (cells (r ∷ rs)) n (λ a low _. other r rs a (λ used _. omega arith)) in
    grind (arith, nat_tests)

-- the same of any list that a ledger can lie in
pub live_usable : (rs : List Record) → sound (usable rs) ≡ true → live_below (cells (usable rs)) (top_of (length rs)) ≡ used (usable rs)
live_usable rs = by_test (fitting (length rs)) (top_of (length rs)) refl
  where
    by_test : (b : Bool) (t : ℕ) → t ≡ cond b 4095 0 → sound (cond b rs []) ≡ true → live_below (cells (cond b rs [])) t ≡ used (cond b rs [])
    by_test true t e fine = live_used t (omega arith) rs fine
    by_test false t e fine = no_cells t
