-- Model: the search: what is found so far and what is still on the pile are together what the openings have. Assumes nothing.
use Rattle.std.specs.Prelude.{◌≡◌, ℕ, Bool, ◌⊎◌, List, [], ◌∷◌, Some, None, Ok, Err, Option}
use Rattle.heap.specs.declared.atoms.Atom.{Atom}
use Rattle.sheet.specs.Routines.{Command, Routine}
use Rattle.sheet.specs.Flow.{row_at}
use Rattle.pieces.specs.declared.verdicts.Flaw.TheVariants.{DeadCell, FalseList}
use Rattle.pieces.specs.Flaws.{Verdict}
use Rattle.pieces.specs.Pieces.{State, Contract, Opening, opening, Misses, Lives, Breaks, Keeps}
use Rattle.pieces.specs.ModelChoices.{SomeOf, Has, lowest}
use Rattle.pieces.specs.ModelStages.{Item, Reaches, opened}
use Rattle.pieces.specs.ModelNeeded.{lean}

-- found is the lowest of the rows at which P was seen; whatever the first items reach has S, or is seen, or is still reached from the pile
pub record Swept (P S : Command → State → Type 0) (rows : List Command) (start : List Item) (found : Option ℕ) (pile : List Item) : Type 0 where
  pub seen : List ℕ
  pub lowest_is : found ≡ lowest seen
  pub to : (g : State) → SomeOf (Reaches rows g) start → (Has g.row seen ⊎ S (row_at rows g.row) g) ⊎ SomeOf (Reaches rows g) pile
  pub back : (g : State) → SomeOf (Reaches rows g) pile → SomeOf (Reaches rows g) start
  pub from : (r : ℕ) → Has r seen → (g : State) × (g.row ≡ r) × P (row_at rows r) g × SomeOf (Reaches rows g) start

-- both searches, over one pile: for dead cells and for lists that are false
pub record Searched (callee : ℕ → Contract) (after : List Atom) (rows : List Command) (start : List Item) (dead false : Option ℕ) (pile : List Item) : Type 0 where
  pub touching : Swept Misses Lives rows start dead pile
  pub closing : Swept (Breaks callee after) (Keeps callee after) rows start false pile

-- the item of the piece that opens behind row p
abbrev pub start_of : (ℕ → ℕ → Bool) → Option Opening → List Item
start_of need None = []
start_of need (Some o) = opened (lean need o) ∷ []

abbrev pub start_at : (ℕ → ℕ → Bool) → (ℕ → Contract) → Routine → ℕ → List Item
start_at need callee R p = start_of need (opening callee R p)

abbrev pub judge : Option ℕ → Option ℕ → Verdict
judge (Some r) o = Err (DeadCell r)
judge None (Some r) = Err (FalseList r)
judge None None = Ok tt
