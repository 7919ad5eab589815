-- Proofs: how the meaning of the words changes with a word, and how the live ones are counted.
use Rattle.std.proofs.Common.{◌≡◌, ℕ, zero, suc, ◌+◌, ◌-◌, ◌<◌, ◌≤◌, Bool, true, false, cond, ltb, eqb, List, [], length, get_or, set, replicate, take, count_by, is_some, None, sym, ap, ◌∙◌, refl, add-one, arith, length-set}
use mathlib.Core.Path.{fun_ext}
use Rattle.heap.specs.Heaps.{Empty, put, without}
use Rattle.std.proofs.lemmas.List.{take_all, length-replicate, get_or-replicate, get_or-set_same, get_or-set_other}
use Rattle.std.proofs.lemmas.Bool.Decides.{nat_tests}
use Rattle.std.proofs.lemmas.List.Sums.{count_by_more_no, count_by_more_yes}
use Rattle.store.proofs.Counting.{all_live}
use Rattle.store.proofs.Lists.{size-is}
use Rattle.store.specs.Meanings.{live_below, live_cells, with_heap}
use Rattle.bench.specs.Words.{cells, cleared, fitting, held, LiveAbove, meant, size, usable}

cells-put : (ws : List ℕ) (i a l : ℕ) → i + 1 ≡ a → i < size (length ws) → l < 65535 → (k : ℕ) → cells (set ws i l) k ≡ put (cells ws) a l k
cells-put ws i a l at lt link k = grind (arith, nat_tests, length-set, get_or-set_same, get_or-set_other)

-- a link in word i makes cell i + 1 live with that link
pub meant-put : (ws : List ℕ) (i a l : ℕ) → i + 1 ≡ a → i < size (length ws) → l < 65535 → meant (set ws i l) ≡ with_heap (meant ws) (put (cells ws) a l)
meant-put ws i a l at lt link = λ j. record { heap = fun_ext (cells-put ws i a l at lt link) j; top = size (length-set ws i l j); capacity = size (length-set ws i l j) }

cells-without : (ws : List ℕ) (i a : ℕ) → i + 1 ≡ a → held ws a ≡ true → (k : ℕ) → cells (set ws i 65535) k ≡ without (cells ws) a k
cells-without ws i a at e k = grind (arith, nat_tests, length-set, get_or-set_same, get_or-set_other)

-- 65,535 in the word of a live cell makes it dead
pub meant-without : (ws : List ℕ) (i a : ℕ) → i + 1 ≡ a → held ws a ≡ true → meant (set ws i 65535) ≡ with_heap (meant ws) (without (cells ws) a)
meant-without ws i a at e = λ j. record { heap = fun_ext (cells-without ws i a at e) j; top = size (length-set ws i 65535 j); capacity = size (length-set ws i 65535 j) }

-- a cell is live if its word holds a link, and dead if it is 65,535
pub held_live : (ws : List ℕ) (a : ℕ) → held ws a ≡ true → is_some (cells ws a) ≡ true
held_live ws a e = rw e

pub dead_cell : (ws : List ℕ) (a : ℕ) → get_or ws (a - 1) 0 ≡ 65535 → is_some (cells ws a) ≡ false
dead_cell ws a e = grind (arith, nat_tests)

-- all cells are live, so they are as many as the words
pub all_held : (ws : List ℕ) → LiveAbove ws 0 → live_cells (meant ws) ≡ size (length ws)
all_held ws live = all_live (cells ws) (size (length ws)) (λ k lo hi. held_live ws k (live k (omega arith) hi))

-- no cell of a bench is live when it is made
pub cleared_empty : (ws : List ℕ) → Empty (cells (cleared ws))
cleared_empty ws a = by_length (fitting (length ws)) refl
  where
    by_length : (b : Bool) → fitting (length ws) ≡ b → cells (cond b (replicate (length ws) 65535) ws) a ≡ None
    by_length true e = grind (arith, nat_tests, length-replicate, get_or-replicate)
    by_length false e = grind (arith, nat_tests)

-- one word more to count
pub count_more : (ws : List ℕ) (i n : ℕ) → i < size (length ws) → get_or ws i 0 ≤ 65535 → n ≡ live_below (cells ws) i → cond (eqb (get_or ws i 0) 65535) n (n + 1) ≡ live_below (cells ws) (i + 1)
count_more ws i n lt word e =
    let z : suc i - 1 ≡ i = omega arith in
    let q : ◌≡◌ {A = ℕ} (cond (is_some (cells ws (suc i))) 1 0) (cond (eqb (get_or ws i 0) 65535) 0 1) = rw z (grind (arith, nat_tests)) in
    let r : live_below (cells ws) (i + 1) ≡ cond (is_some (cells ws (suc i))) 1 0 + live_below (cells ws) i = rw add-one in
    grind (arith, nat_tests)

-- how many words hold a link
abbrev pub links : List ℕ → ℕ
links ws = count_by (λ w. ltb w 65535) ws

-- one word more holds a link or not, as its cell is live or not
step_to : (ws : List ℕ) (i : ℕ) (b : Bool) → ltb (get_or ws i 0) 65535 ≡ b → i < size (length ws) → live_below (cells ws) (suc i) ≡ cond b 1 0 + live_below (cells ws) i
step_to ws i b e lt =
    let z : suc i - 1 ≡ i = omega arith in
    let q : ◌≡◌ {A = ℕ} (cond (is_some (cells ws (suc i))) 1 0) (cond b 1 0) = rw z (grind (arith, nat_tests)) in
    omega arith

links_below : (ws : List ℕ) (i : ℕ) → i ≤ size (length ws) → links (take i ws) ≡ live_below (cells ws) i
links_below ws zero most = refl
links_below ws (suc i) most = by_test (ltb (get_or ws i 0) 65535) refl (links_below ws i (omega arith))
  where
    under : i < length ws
    under = omega (arith, size-is 4095 (length ws) i (omega arith))

    next : links (take (suc i) ws) ≡ links (take (i + 1) ws)
    next = let e : suc i ≡ i + 1 = omega arith in ap (λ j. links (take j ws)) e

    by_test : (b : Bool) → ltb (get_or ws i 0) 65535 ≡ b → links (take i ws) ≡ live_below (cells ws) i → links (take (suc i) ws) ≡ live_below (cells ws) (suc i)
    by_test true e before = omega (arith, next, step_to ws i true e (omega arith), count_by_more_yes (λ w. ltb w 65535) ws i 0 under e)
    by_test false e before = omega (arith, next, step_to ws i false e (omega arith), count_by_more_no (λ w. ltb w 65535) ws i 0 under e)

-- as many cells are live as usable words hold a link
pub links_live : (ws : List ℕ) → links (usable ws) ≡ live_cells (meant ws)
links_live ws = by_test (fitting (length ws)) refl (links_below ws (size (length ws)) (omega arith))
  where
    by_test : (b : Bool) → fitting (length ws) ≡ b → links (take (size (length ws)) ws) ≡ live_below (cells ws) (size (length ws)) → links (cond b ws []) ≡ live_below (cells ws) (size (length ws))
    by_test true e h = sym (ap links (ap (λ b. take (cond b (length ws) 0) ws) e ∙ take_all (length ws) ws (omega arith))) ∙ h
    by_test false e h = sym (ap (λ b. live_below (cells ws) (cond b (length ws) 0)) e)
