-- Meaning: what a pile holds, and what a push and a pop make of it. Assumes nothing.
use Rattle.std.specs.Prelude.{◌≡◌, ℕ, ◌+◌, ◌<◌, List, ◌∷◌, reverse, length, take}
use Rattle.heap.specs.declared.piles.Pile.{Pile}

-- the first n slots, the last of them on top; what stands in the slots behind them does not count
abbrev pub contents : {A : Type 0} → ℕ → List A → List A
contents n slots = reverse (take n slots)

-- the entries of a pile, the top first
abbrev pub entries : {A : Type 0} → Pile A → List A
entries p = contents p.len p.slots.now

-- how many entries it can hold in all
abbrev pub capacity : {A : Type 0} → Pile A → ℕ
capacity p = length p.slots.now

-- p had room, and x lies on its entries in q
pub record Pushed {A : Type 0} (x : A) (p q : Pile A) : Type 0 where
  pub fits : p.len < capacity p
  pub top : entries q ≡ x ∷ entries p
  pub count : q.len ≡ p.len + 1

-- p was full, and q is p, also in the slots that do not count
pub record Refused {A : Type 0} (p q : Pile A) : Type 0 where
  pub full : p.len ≡ capacity p
  pub count : q.len ≡ p.len
  pub slots : q.slots.now ≡ p.slots.now

-- x was the top of p, and q has the entries below it
pub record Popped {A : Type 0} (x : A) (p q : Pile A) : Type 0 where
  pub top : entries p ≡ x ∷ entries q
  pub count : p.len ≡ q.len + 1

-- p had no entry, and neither has q
pub record Spent {A : Type 0} (p q : Pile A) : Type 0 where
  pub empty : p.len ≡ 0
  pub count : q.len ≡ p.len
