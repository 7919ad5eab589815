-- Lines that are right, taken one after another, and what makes one line right.
use Rattle.std.proofs.Common.{◌≡◌, ℕ, suc, Bool, true, false, List, [], ◌∷◌, ◌++◌, None, Ok, sym, ap, ◌∙◌, subst}
use Rattle.layout.specs.declared.lines.Six.{Six}
use Rattle.layout.specs.declared.lines.Numbers.{Numbers}
use Rattle.sheet.specs.declared.kinds.Kind.{Kind}
use Rattle.sheet.specs.Kinds.{role_of, classes_of, fits}
use Rattle.sheet.specs.Written.{line_as}
use Rattle.sheet.specs.Reading.{Progress, due, scope_for, overfull, next_by, or_wrong, line_by, line_more, onward, at_place, all_lines}
use Rattle.sheet.proofs.Checks.{tests}
use Rattle.sheet.proofs.KindsKnown.{found}
use Rattle.sheet.proofs.LineFaults.{first_right}

-- the lines lead from one progress to another
abbrev pub Runs : Progress → List Numbers → Progress → Type 0
Runs p [] q = p ≡ q
Runs p (l ∷ ls) q = (m : Progress) × (line_more p l ≡ Ok m) × Runs m ls q

pub runs_append : (p q r : Progress) (ls ms : List Numbers) → Runs p ls q → Runs q ms r → Runs p (ls ++ ms) r
runs_append p q r [] ms a b = subst (λ x. Runs x ms r) (sym a) b
runs_append p q r (l ∷ ls) ms a b = (a.0, a.1, runs_append a.0 q r ls ms a.2 b)

pub lines_run : (p q : Progress) (k : ℕ) (ls : List Numbers) → all_lines p k ls ≡ Ok q → Runs p ls q
lines_run p q k [] e = cc
lines_run p q k (l ∷ ls) e =
    let s = first_right k (line_more p l) (λ u. all_lines u (suc k) ls) q e in
    (s.0, s.1, lines_run s.0 q (suc k) ls s.2)

pub run_lines : (p q : Progress) (k : ℕ) (ls : List Numbers) → Runs p ls q → all_lines p k ls ≡ Ok q
run_lines p q k [] e = ap Ok e
run_lines p q k (l ∷ ls) a =
    ap (λ o. onward (at_place k o) (λ u. all_lines u (suc k) ls)) a.1 ∙ run_lines a.0 q (suc k) ls a.2

none_fails : (d f o : Bool) → d ≡ true → f ≡ true → o ≡ false → tests d f o ≡ None
none_fails d f o x y z = rw (x, y, z)

-- a line that passes its three tests is taken
pub line_taken : (p : Progress) (k : Kind) (v : Six ℕ) → due p (role_of k) ≡ true → fits (scope_for p (role_of k) v) (classes_of k) v ≡ true → overfull p (role_of k) ≡ false
    → line_more p (line_as k v) ≡ Ok (next_by (role_of k) p k v)
line_taken p k v d f o =
    ap (λ e. line_by p e v) (found k)
    ∙ ap (λ w. or_wrong w (next_by (role_of k) p k v)) (none_fails (due p (role_of k)) (fits (scope_for p (role_of k) v) (classes_of k) v) (overfull p (role_of k)) d f o)
