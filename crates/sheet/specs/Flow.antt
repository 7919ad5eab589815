-- Meaning: where the rows of a routine lead, which rows are in the wrong place, and how much a piece weighs. Assumes nothing.
use Rattle.std.specs.Prelude.{◌≡◌, ℕ, suc, ◌+◌, ◌-◌, ◌≤◌, Bool, true, false, not, ◌&&◌, ◌||◌, ◌⊎◌, List, length, ◌==◌, nat_lt, slice_index_or}
use Rattle.sheet.specs.Kinds.{weight_of}
use Rattle.sheet.specs.Routines.{Command, assign, load, store, new, free, jump, branch, cut, call, done}
use Rattle.sheet.specs.Written.{command_kind}

-- the row of a number, counted from 1
abbrev pub row_at : List Command → ℕ → Command
row_at rows r = slice_index_or rows (r - 1) done

abbrev pub is_cut : Command → Bool
is_cut (assign x e) = false
is_cut (load x y) = false
is_cut (store x e) = false
is_cut (new x) = false
is_cut (free x) = false
is_cut (jump r) = false
is_cut (branch e f r) = false
is_cut (cut l) = true
is_cut (call x q y z s t l) = false
is_cut done = false

-- a piece opens behind the row
abbrev pub opens : Command → Bool
opens (assign x e) = false
opens (load x y) = false
opens (store x e) = false
opens (new x) = false
opens (free x) = false
opens (jump r) = false
opens (branch e f r) = false
opens (cut l) = true
opens (call x q y z s t l) = true
opens done = false

-- a piece closes at the row
abbrev pub closes : Command → Bool
closes (assign x e) = false
closes (load x y) = false
closes (store x e) = false
closes (new x) = false
closes (free x) = false
closes (jump r) = false
closes (branch e f r) = false
closes (cut l) = true
closes (call x q y z s t l) = true
closes done = true

-- the row may be the last one
abbrev pub ends : Command → Bool
ends (assign x e) = false
ends (load x y) = false
ends (store x e) = false
ends (new x) = false
ends (free x) = false
ends (jump r) = true
ends (branch e f r) = false
ends (cut l) = false
ends (call x q y z s t l) = false
ends done = true

-- from row i to row r: neither to a later row nor to a cut
abbrev pub strays : List Command → ℕ → ℕ → Bool
strays rows i r = not (nat_lt i r || is_cut (row_at rows r))

abbrev pub bad_target : List Command → ℕ → Command → Bool
bad_target rows i (assign x e) = false
bad_target rows i (load x y) = false
bad_target rows i (store x e) = false
bad_target rows i (new x) = false
bad_target rows i (free x) = false
bad_target rows i (jump r) = strays rows i r
bad_target rows i (branch e f r) = strays rows i r
bad_target rows i (cut l) = false
bad_target rows i (call x q y z s t l) = false
bad_target rows i done = false

-- row i goes to a wrong place, or is the last and may not be
abbrev pub misplaced : List Command → ℕ → Bool
misplaced rows i = bad_target rows i (row_at rows i) || (i == length rows && not (ends (row_at rows i)))

-- the row leads from row i to row j
abbrev pub Leads : Command → ℕ → ℕ → Type 0
Leads (assign x e) i j = j ≡ suc i
Leads (load x y) i j = j ≡ suc i
Leads (store x e) i j = j ≡ suc i
Leads (new x) i j = j ≡ suc i
Leads (free x) i j = j ≡ suc i
Leads (jump r) i j = j ≡ r
Leads (branch e f r) i j = (j ≡ r) ⊎ (j ≡ suc i)
Leads (cut l) i j = ⊥
Leads (call x q y z s t l) i j = ⊥
Leads done i j = ⊥

-- from row i there is a way to where the piece closes, whichever way branches go, over rows that weigh w together
pub data Way (rows : List Command) : ℕ → ℕ → Type 0 where
  close : {i : ℕ} → closes (row_at rows i) ≡ true → Way rows i 0
  step : {i j w : ℕ} → Leads (row_at rows i) i j → Way rows j w → Way rows i (weight_of (command_kind (row_at rows i)) + w)

-- no row is misplaced
abbrev pub InPlace : List Command → Type 0
InPlace rows = (i : ℕ) → 1 ≤ i → i ≤ length rows → misplaced rows i ≡ false

-- w is the most that the ways from row i on weigh
pub record Most (rows : List Command) (i w : ℕ) : Type 0 where
  pub reached : Way rows i w
  pub greatest : (v : ℕ) → Way rows i v → v ≤ w

-- a piece opens behind row p; 0 is the start
abbrev pub Opens : List Command → ℕ → Type 0
Opens rows p = (p ≡ 0) ⊎ ((1 ≤ p) × (p ≤ length rows) × (opens (row_at rows p) ≡ true))

-- the piece that opens behind row p weighs more than 8 on some way
pub record Heavy (rows : List Command) (p : ℕ) : Type 0 where
  pub opening : Opens rows p
  pub weight : ℕ
  pub over : 9 ≤ weight
  pub way : Way rows (suc p) weight
