-- Meaning: what a store means, the bounds it keeps, and what each call answers and makes of it. Assumes nothing.
use Rattle.std.specs.Prelude.{◌≡◌, ℕ, zero, suc, ◌+◌, ◌<◌, ◌≤◌, Bool, true, false, cond, ◌&&◌, List, [], ◌∷◌, is_some, Some, Result, MatchResult, nat_le}
use Rattle.heap.specs.Faults.{made_by, Report, report}
use Rattle.heap.specs.Heaps.{Heap, put, without}
use Rattle.heap.specs.declared.faults.Fault.{Fault}

-- the cells with their links, the highest address that a cell can have, and how many cells can be live at once
pub record Meaning : Type 0 where
  pub heap : Heap
  pub top : ℕ
  pub capacity : ℕ

-- the kind that a fault carries, from its number and the arguments of the call, in their order
abbrev pub Kinds : Type 0
Kinds = ℕ → List ℕ → ℕ

-- what every call keeps, so that a lender knows what it holds when the store ends: the kinds of the faults, and the ghost name of the lent memory
pub record Keeps {S : Type 0} (kinds_of : S → Kinds) (home_of : S → ℕ) (old new : S) : Type 0 where
  pub kinds : kinds_of new ≡ kinds_of old
  pub home : home_of new ≡ home_of old

abbrev pub is_live : Meaning → ℕ → Bool
is_live m a = is_some (m.heap a)

-- how many of the addresses from 1 to n are live
abbrev pub live_below : Heap → ℕ → ℕ
live_below h zero = 0
live_below h (suc n) = cond (is_some (h (suc n))) 1 0 + live_below h n

-- how many cells are live
abbrev pub live_cells : Meaning → ℕ
live_cells m = live_below m.heap m.top

-- the same store with the cells of h
abbrev pub with_heap : Meaning → Heap → Meaning
with_heap m h = record { heap = h; top = m.top; capacity = m.capacity }

-- what holds of every store at every time: nil is not live and no address above top is, 65,535 is no link
pub record Bounded (m : Meaning) : Type 0 where
  pub low : (a l : ℕ) → m.heap a ≡ Some l → 1 ≤ a
  pub high : (a l : ℕ) → m.heap a ≡ Some l → a ≤ m.top
  pub links : (a l : ℕ) → m.heap a ≡ Some l → l ≤ 65534
  pub cells : live_cells m ≤ m.capacity
  pub room : m.capacity ≤ m.top
  pub top : m.top ≤ 65534

-- what a store's fault reports: it belongs to no routine and no row
abbrev pub refusal : ℕ → ℕ → ℕ → Report
refusal n p k = made_by k n p

-- the call on the address a was refused since a is not live: 141 at a
pub record Dead (m : Meaning) (kinds : Kinds) (arguments : List ℕ) (a : ℕ) (f : Fault) (n : Meaning) : Type 0 where
  pub dead : is_live m a ≡ false
  pub fault : report f ≡ refusal 141 a (kinds 141 arguments)
  pub same : n ≡ m

-- l is the link of a, and nothing changed
pub record Read (m : Meaning) (a l : ℕ) (n : Meaning) : Type 0 where
  pub link : m.heap a ≡ Some l
  pub same : n ≡ m

-- read: the link of a, or 141
abbrev pub Reads : Meaning → Kinds → ℕ → Result ℕ Fault → Meaning → Type 0
Reads m kinds a r n = MatchResult r (λ l. Read m a l n) (λ f. Dead m kinds (a ∷ []) a f n)

-- a was live, l is a link, and a has the link l now
pub record Written (m : Meaning) (a l : ℕ) (n : Meaning) : Type 0 where
  pub live : is_live m a ≡ true
  pub fits : l ≤ 65534
  pub after : n ≡ with_heap m (put m.heap a l)

-- a live address can take any link up to 65,534
abbrev pub writable : Meaning → ℕ → ℕ → Bool
writable m a l = is_live m a && nat_le l 65534

-- a was not live: 141 at a; else l is too high for a link: 142 at l
pub record Unwritten (m : Meaning) (kinds : Kinds) (a l : ℕ) (f : Fault) (n : Meaning) : Type 0 where
  pub refused : writable m a l ≡ false
  pub fault : report f ≡ cond (is_live m a) (refusal 142 l (kinds 142 (a ∷ l ∷ []))) (refusal 141 a (kinds 141 (a ∷ l ∷ [])))
  pub same : n ≡ m

-- write: a gets the link l, or 141, or 142
abbrev pub Writes : {U : Type 0} → Meaning → Kinds → ℕ → ℕ → Result U Fault → Meaning → Type 0
Writes m kinds a l r n = MatchResult r (λ _. Written m a l n) (λ f. Unwritten m kinds a l f n)

-- a was live, and is live no longer
pub record Freed (m : Meaning) (a : ℕ) (n : Meaning) : Type 0 where
  pub live : is_live m a ≡ true
  pub after : n ≡ with_heap m (without m.heap a)

-- free: a is dead, or 141
abbrev pub Frees : {U : Type 0} → Meaning → Kinds → ℕ → Result U Fault → Meaning → Type 0
Frees m kinds a r n = MatchResult r (λ _. Freed m a n) (λ f. Dead m kinds (a ∷ []) a f n)

-- there was room, a was a dead address from 1 to top, and is live with the link 0 now
pub record Taken (m : Meaning) (a : ℕ) (n : Meaning) : Type 0 where
  pub room : live_cells m < m.capacity
  pub low : 1 ≤ a
  pub high : a ≤ m.top
  pub dead : is_live m a ≡ false
  pub after : n ≡ with_heap m (put m.heap a 0)

-- as many cells were live as can be: 143
pub record Full (m : Meaning) (kinds : Kinds) (f : Fault) (n : Meaning) : Type 0 where
  pub full : live_cells m ≡ m.capacity
  pub fault : report f ≡ refusal 143 0 (kinds 143 [])
  pub same : n ≡ m

-- take: some dead address that is live now, or 143
abbrev pub Takes : Meaning → Kinds → Result ℕ Fault → Meaning → Type 0
Takes m kinds r n = MatchResult r (λ a. Taken m a n) (λ f. Full m kinds f n)
