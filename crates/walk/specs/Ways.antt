-- Meaning: following links through a heap, and two cells that change links. Assumes nothing.
use Rattle.std.specs.Prelude.{◌≡◌, ℕ, zero, suc, true, false, cond, ◌&&◌, [], ◌∷◌, Some, None, Result, MatchResult}
use Rattle.heap.specs.Faults.{report}
use Rattle.heap.specs.Heaps.{Heap, put}
use Rattle.heap.specs.declared.faults.Fault.{Fault}
use Rattle.std.specs.Option.{unwrap_or}
use Rattle.store.specs.Meanings.{is_live, Kinds, Meaning, refusal, with_heap}

-- how many live cells a walk along the links passes from a, in at most n steps
abbrev pub steps : Heap → ℕ → ℕ → ℕ
steps h zero a = 0
steps h (suc n) a = elim (h a) [ None ↦ 0 | Some l ↦ suc (steps h n l) ]

-- the link of a live cell
abbrev pub link_of : Meaning → ℕ → ℕ
link_of m a = unwrap_or (m.heap a) 0

-- both cells were live, x and y are their links, and nothing changed
pub record Linked (m : Meaning) (a b x y : ℕ) (n : Meaning) : Type 0 where
  pub first : m.heap a ≡ Some x
  pub second : m.heap b ≡ Some y
  pub same : n ≡ m

-- both cells were live, and each has the other's link now
pub record Swapped (m : Meaning) (a b : ℕ) (n : Meaning) : Type 0 where
  pub live : (is_live m a && is_live m b) ≡ true
  pub after : n ≡ with_heap m (put (put m.heap a (link_of m b)) b (link_of m a))

-- a was not live: 141 at a; else b was not: 141 at b
pub record Unswapped (m : Meaning) (kinds : Kinds) (a b : ℕ) (f : Fault) (n : Meaning) : Type 0 where
  pub refused : (is_live m a && is_live m b) ≡ false
  pub fault : report f ≡ cond (is_live m a) (refusal 141 b (kinds 141 (b ∷ []))) (refusal 141 a (kinds 141 (a ∷ [])))
  pub same : n ≡ m

abbrev pub Swaps : {U : Type 0} → Meaning → Kinds → ℕ → ℕ → Result U Fault → Meaning → Type 0
Swaps m kinds a b r n = MatchResult r (λ _. Swapped m a b n) (λ f. Unswapped m kinds a b f n)
