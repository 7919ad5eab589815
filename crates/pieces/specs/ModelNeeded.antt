-- Model: which names a piece needs from a row on; the others may be left at nil. Assumes nothing.
use Rattle.std.specs.Prelude.{◌≡◌, ℕ, suc, Bool, true, false, not, ◌&&◌, ◌||◌, List, Some, None, Option, ◌==◌}
use Rattle.std.specs.List.{filter, list_any}
use Rattle.heap.specs.declared.atoms.Atom.{Atom}
use Rattle.heap.specs.declared.atoms.Atom.TheVariants.{Eq, Neq, Next, Lseg}
use Rattle.sheet.specs.Routines.{Command, assign, load, store, new, free, jump, branch, cut, call, done}
use Rattle.sheet.specs.Flow.{row_at}
use Rattle.pieces.specs.Pieces.{Contract, Opening, closing}

abbrev pub in_atom : ℕ → Atom → Bool
in_atom n (Eq x y) = n == x || n == y
in_atom n (Neq x y) = n == x || n == y
in_atom n (Next x y) = n == x || n == y
in_atom n (Lseg x y) = n == x || n == y

abbrev pub mentions : ℕ → List Atom → Bool
mentions n l = list_any (in_atom n) l

abbrev pub mentioned : ℕ → Option (List Atom) → Bool
mentioned n None = false
mentioned n (Some l) = mentions n l

-- whether the name n is needed at row r, the row being w; need tells it of other rows, closes of rows that close a piece
abbrev pub needed_at : (ℕ → Bool) → (ℕ → Bool) → ℕ → ℕ → Command → Bool
needed_at need closes n r (assign x e) = n == e || (not (n == x) && need (suc r))
needed_at need closes n r (load x y) = n == y || (not (n == x) && need (suc r))
needed_at need closes n r (store x e) = n == x || (n == e || need (suc r))
needed_at need closes n r (new x) = not (n == x) && need (suc r)
needed_at need closes n r (free x) = n == x || need (suc r)
needed_at need closes n r (jump t) = need t
needed_at need closes n r (branch e f t) = n == e || (n == f || (need (suc r) || need t))
needed_at need closes n r (cut l) = closes r
needed_at need closes n r (call x q y z s t l) = closes r
needed_at need closes n r done = closes r

-- the list that closes at row r has the name n
abbrev pub in_closing : (ℕ → Contract) → List Atom → List Command → ℕ → ℕ → Bool
in_closing callee after rows n r = mentioned n (closing callee after (row_at rows r))

-- need has every name that is needed
abbrev pub Enough : (ℕ → Contract) → List Atom → List Command → (ℕ → ℕ → Bool) → Type 0
Enough callee after rows need = (r n : ℕ) → needed_at (λ k. need k n) (in_closing callee after rows n) n r (row_at rows r) ≡ true → need r n ≡ true

-- an opening with only the names that its piece needs
abbrev pub lean : (ℕ → ℕ → Bool) → Opening → Opening
lean need o = record { names = filter (λ n. mentions n o.list || need o.row n) o.names; list = o.list; row = o.row }
