-- Meaning: the pieces of a routine: what opens one, the states it goes through row by row, what closes it, and the verdict on them all. Assumes nothing.
use Rattle.std.specs.Prelude.{◌≡◌, ℕ, zero, suc, ◌≤◌, Bool, false, cond, ◌≢◌, ◌⊎◌, List, [], ◌∷◌, ◌++◌, Some, None, Ok, Err, Option, ◌==◌, slice_index_or}
use Rattle.std.specs.List.{list_any}
use Rattle.heap.specs.Heaps.{Heap, without}
use Rattle.heap.specs.Lists.{Holds, renamed}
use Rattle.heap.specs.declared.atoms.Atom.{Atom}
use Rattle.sheet.specs.Routines.{Command, assign, load, store, new, free, jump, branch, cut, call, done, Routine}
use Rattle.sheet.specs.Flow.{row_at}
use Rattle.pieces.specs.declared.verdicts.Flaw.TheVariants.{DeadCell, FalseList}
use Rattle.pieces.specs.Flaws.{Verdict}

-- f with v at i
abbrev pub put : {A : Type 0} → (ℕ → A) → ℕ → A → ℕ → A
put f i v k = cond (k == i) v (f k)

-- where a run of a piece is: the row that comes next, the values of the names, and the heap
pub record State : Type 0 where
  pub row : ℕ
  pub env : ℕ → ℕ
  pub heap : Heap

-- what others may rely on: how many arguments and ghosts a routine has, what holds where it begins and where it ends
pub record Contract : Type 0 where
  pub arguments : ℕ
  pub ghosts : ℕ
  pub before : List Atom
  pub after : List Atom

abbrev pub contract_of : Routine → Contract
contract_of R = record { arguments = R.arguments; ghosts = R.ghosts; before = R.before; after = R.after }

-- one row done, from the state s to the state u; a row that finds its cell dead, and a row that closes a piece, leads nowhere
abbrev pub Does : Command → State → State → Type 0
Does (assign x e) s u = u ≡ record { row = suc s.row; env = put s.env x (s.env e); heap = s.heap }
Does (load x y) s u = (v : ℕ) × (s.heap (s.env y) ≡ Some v) × (u ≡ record { row = suc s.row; env = put s.env x v; heap = s.heap })
Does (store x e) s u = (s.heap (s.env x) ≢ None) × (u ≡ record { row = suc s.row; env = s.env; heap = put s.heap (s.env x) (Some (s.env e)) })
Does (new x) s u = (a : ℕ) × (a ≢ 0) × (s.heap a ≡ None) × (u ≡ record { row = suc s.row; env = put s.env x a; heap = put s.heap a (Some 0) })
Does (free x) s u = (s.heap (s.env x) ≢ None) × (u ≡ record { row = suc s.row; env = s.env; heap = without s.heap (s.env x) })
Does (jump t) s u = u ≡ record { row = t; env = s.env; heap = s.heap }
Does (branch e f t) s u = ((s.env e ≡ s.env f) × (u ≡ record { row = t; env = s.env; heap = s.heap })) ⊎ ((s.env e ≢ s.env f) × (u ≡ record { row = suc s.row; env = s.env; heap = s.heap }))
Does (cut l) s u = ⊥
Does (call x q y z i j l) s u = ⊥
Does done s u = ⊥

-- rows done one after another, from a state to the state g
pub data Runs (rows : List Command) (g : State) : State → Type 0 where
  here : Runs rows g g
  on : {s u : State} → Does (row_at rows s.row) s u → Runs rows g u → Runs rows g s

-- the name that holds the address of the cell that the row touches
abbrev pub touched : Command → Option ℕ
touched (assign x e) = None
touched (load x y) = Some y
touched (store x e) = Some x
touched (new x) = None
touched (free x) = Some x
touched (jump t) = None
touched (branch e f t) = None
touched (cut l) = None
touched (call x q y z i j l) = None
touched done = None

-- the row touches a cell that is not live
abbrev pub Misses : Command → State → Type 0
Misses w s = (x : ℕ) × (touched w ≡ Some x) × (s.heap (s.env x) ≡ None)

-- the row finds the cell that it touches live
abbrev pub Lives : Command → State → Type 0
Lives w s = (x : ℕ) → touched w ≡ Some x → (v : ℕ) × (s.heap (s.env x) ≡ Some v)

-- the names of a routine as a call says them, all at once: 1 and 2 are the arguments, 7 and 8 the ghosts
abbrev pub given : (y z s t : ℕ) → ℕ → ℕ
given y z s t = put (put (put (put (λ n. n) 1 y) 2 z) 7 s) 8 t

-- the list that must hold where a piece closes
abbrev pub closing : (ℕ → Contract) → List Atom → Command → Option (List Atom)
closing callee after (assign x e) = None
closing callee after (load x y) = None
closing callee after (store x e) = None
closing callee after (new x) = None
closing callee after (free x) = None
closing callee after (jump t) = None
closing callee after (branch e f t) = None
closing callee after (cut l) = Some l
closing callee after (call x q y z s t l) = Some (renamed (given y z s t) (callee q).before ++ l)
closing callee after done = Some after

-- the row closes the piece, and its list does not hold
abbrev pub Breaks : (ℕ → Contract) → List Atom → Command → State → Type 0
Breaks callee after w s = (l : List Atom) × (closing callee after w ≡ Some l) × ¬ Holds s.env l s.heap

-- if the row closes the piece, its list holds
abbrev pub Keeps : (ℕ → Contract) → List Atom → Command → State → Type 0
Keeps callee after w s = (l : List Atom) → closing callee after w ≡ Some l → Holds s.env l s.heap

-- where a piece opens: the names that may have any value, what holds, and the first row
pub record Opening : Type 0 where
  pub names : List ℕ
  pub list : List Atom
  pub row : ℕ

-- the names n, n + 1, .., k of them
abbrev pub from : ℕ → ℕ → List ℕ
from n zero = []
from n (suc k) = n ∷ from (suc n) k

-- the piece that opens behind a cut or a call; r is the row behind it
abbrev pub behind : (ℕ → Contract) → List ℕ → ℕ → Command → Option Opening
behind callee names r (assign x e) = None
behind callee names r (load x y) = None
behind callee names r (store x e) = None
behind callee names r (new x) = None
behind callee names r (free x) = None
behind callee names r (jump t) = None
behind callee names r (branch e f t) = None
behind callee names r (cut l) = Some (record { names = names; list = l; row = r })
behind callee names r (call x q y z s t l) = Some (record { names = names; list = renamed (given x 2 s t) (callee q).after ++ l; row = r })
behind callee names r done = None

-- the piece that opens behind row p, reached or not; 0 is the start, where variables beyond the arguments are 0
abbrev pub opening : (ℕ → Contract) → Routine → ℕ → Option Opening
opening callee R zero = Some (record { names = from 1 R.arguments ++ from 7 R.ghosts; list = R.before; row = 1 })
opening callee R (suc p) = behind callee (from 1 R.variables ++ from 7 R.ghosts) (suc (suc p)) (slice_index_or R.rows p done)

abbrev pub mem : ℕ → List ℕ → Bool
mem n xs = list_any (λ x. x == n) xs

-- a state that an opening allows: all other names are 0, and its list holds
pub record Allowed (o : Opening) (s : State) : Type 0 where
  pub first : s.row ≡ o.row
  pub far : (n : ℕ) → mem n o.names ≡ false → s.env n ≡ 0
  pub holds : Holds s.env o.list s.heap

-- some run of some piece, from some state that its opening allows, comes to the state g
pub record Comes (callee : ℕ → Contract) (R : Routine) (g : State) : Type 0 where
  pub piece : ℕ
  pub opens : Opening
  pub is_opening : opening callee R piece ≡ Some opens
  pub start : State
  pub allowed : Allowed opens start
  pub runs : Runs R.rows g start

-- every piece is right: in every run from every allowed state, each row that touches finds its cell live, and each closing list holds
abbrev pub Right : (ℕ → Contract) → Routine → Type 0
Right callee R = (g : State) → Comes callee R g → Lives (row_at R.rows g.row) g × Keeps callee R.after (row_at R.rows g.row) g

-- some run comes to row r and touches a cell there that is not live
abbrev pub TouchesDead : (ℕ → Contract) → Routine → ℕ → Type 0
TouchesDead callee R r = (g : State) × Comes callee R g × (g.row ≡ r) × Misses (row_at R.rows r) g

-- some run closes at row r with its list false
abbrev pub ClosesFalse : (ℕ → Contract) → Routine → ℕ → Type 0
ClosesFalse callee R r = (g : State) × Comes callee R g × (g.row ≡ r) × Breaks callee R.after (row_at R.rows r) g

abbrev pub Lowest : (ℕ → Type 0) → ℕ → Type 0
Lowest P r = P r × ((k : ℕ) → P k → r ≤ k)

-- the verdict on a routine, beside the contracts of those that it may call
abbrev pub Judged : (ℕ → Contract) → Routine → Verdict → Type 0
Judged callee R (Ok u) = Right callee R
Judged callee R (Err (DeadCell r)) = Lowest (TouchesDead callee R) r
Judged callee R (Err (FalseList r)) = ((k : ℕ) → ¬ TouchesDead callee R k) × Lowest (ClosesFalse callee R) r
