-- Meaning: heaps, the parts of a heap, a single cell and a list segment. Assumes nothing.
use Rattle.std.specs.Prelude.{◌≡◌, ℕ, cond, ◌≢◌, ◌⊎◌, Some, None, Option, ◌==◌}

-- the link that each address holds, if it is live; 0 is nil, addresses are 1 and up
abbrev pub Heap : Type 0
Heap = ℕ → Option ℕ

abbrev pub Empty : Heap → Type 0
Empty h = (a : ℕ) → h a ≡ None

-- h is k and l, which share no live address
abbrev pub Split : Heap → Heap → Heap → Type 0
Split h k l = (a : ℕ) → ((h a ≡ k a) × (l a ≡ None)) ⊎ ((h a ≡ l a) × (k a ≡ None))

-- the heap whose one cell is e, with the link f
pub record IsCell (e f : ℕ) (h : Heap) : Type 0 where
  pub some_address : e ≢ 0
  pub links : h e ≡ Some f
  pub alone : (a : ℕ) → a ≢ e → h a ≡ None

-- the heap whose cells are those from e along the links up to f, which is none of them
pub data IsLseg : Heap → ℕ → ℕ → Type 0 where
  done : {h : Heap} {f : ℕ} → Empty h → IsLseg h f f
  more : {h k l : Heap} {e z f : ℕ} → e ≢ f → Split h k l → IsCell e z k → IsLseg l z f → IsLseg h e f

-- the heap h with e live and linked to f
abbrev pub put : Heap → ℕ → ℕ → Heap
put h e f a = cond (a == e) (Some f) (h a)

-- the heap h with e dead
abbrev pub without : Heap → ℕ → Heap
without h e a = cond (a == e) None (h a)
