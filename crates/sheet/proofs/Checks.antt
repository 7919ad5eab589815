-- The three tests of a line, one after another.
use Rattle.std.proofs.Common.{◌≡◌, ℕ, Bool, true, false, cond, Some, None, Ok, Err, Option, sym, refl, ap, arith}
use Rattle.heap.specs.declared.faults.Problem.{Problem}
use Rattle.heap.specs.declared.faults.Problem.TheVariants.{NotDue, Operand, AtomCount}
use Rattle.layout.specs.declared.lines.Six.{Six}
use Rattle.sheet.specs.ModelReading.{checked_by}

pub none_by_test : {A : Type 0} (b : Bool) (x : A) → cond b (Some x) None ≡ None → b ≡ false
none_by_test true x e = let z : ◌≡◌ {A = ℕ} 0 1 = cc in absurd (omega arith)
none_by_test false x e = refl

pub some_by_test : {A : Type 0} (b : Bool) (x y : A) → cond b (Some x) None ≡ Some y → (b ≡ true) × (x ≡ y)
some_by_test true x y e = (refl, cc)
some_by_test false x y e = let z : ◌≡◌ {A = ℕ} 0 1 = cc in absurd (omega arith)

abbrev pub tests : Bool → Bool → Bool → Option Problem
tests due fit over = cond due (cond fit (cond over (Some AtomCount) None) (Some Operand)) (Some NotDue)

pub wrong_operand : (v : Six ℕ) {due fit : Bool} (over : Bool) → due ≡ true → fit ≡ false → Err Operand ≡ checked_by (tests due fit over) v
wrong_operand v over d f = rw (d, f)

pub wrong_count : (v : Six ℕ) {due fit over : Bool} → due ≡ true → fit ≡ true → over ≡ true → Err AtomCount ≡ checked_by (tests due fit over) v
wrong_count v d f o = rw (d, f, o)

pub nothing_wrong : (v w : Six ℕ) {due fit over : Bool} → due ≡ true → fit ≡ true → over ≡ false → v ≡ w → Ok w ≡ checked_by (tests due fit over) v
nothing_wrong v w d f o e = rw (d, f, o) (ap Ok (sym e))
