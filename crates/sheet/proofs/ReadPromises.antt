-- What reading promises, from the definition and its laws.
use Rattle.std.proofs.Common.{◌≡◌, ℕ, List, Ok, Err, Result, sym, ap, ◌∙◌, arith}
use Rattle.heap.specs.Faults.{Report}
use Rattle.sheet.specs.Routines.{Routine}
use Rattle.sheet.specs.Written.{text_of}
use Rattle.sheet.specs.Formed.{WellFormed}
use Rattle.sheet.specs.Reading.{reading}
use Rattle.sheet.specs.Sheets.{answered, filled_by}
use Rattle.sheet.proofs.TextReads.{text_reads}

pub answer_is : (t : List ℕ) (o : Result Routine Report) → reading t ≡ o → answered o ≡ answered (reading t)
answer_is t o h = sym (ap answered h)

pub filled_is : (t : List ℕ) (old : Routine) (o : Result Routine Report) → reading t ≡ o → filled_by old o ≡ filled_by old (reading t)
filled_is t old o h = sym (ap (filled_by old) h)

-- what reads cannot be refused, and reads as itself
pub never_refused : (t : List ℕ) (e : Report) (R : Routine) → reading t ≡ Err e → WellFormed R → t ≡ text_of R → ⊥
never_refused t e R h w q =
    let r : reading t ≡ Ok R = ap reading q ∙ text_reads R w in
    let z : ◌≡◌ {A = ℕ} 0 1 = cc in omega arith

pub reads_itself : (t : List ℕ) (S R : Routine) → reading t ≡ Ok S → WellFormed R → t ≡ text_of R → S ≡ R
reads_itself t S R h w q = let r : reading t ≡ Ok R = ap reading q ∙ text_reads R w in cc
