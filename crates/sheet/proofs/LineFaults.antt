-- Lines are refused at the first that is wrong, by the first of its tests that fails.
use Rattle.std.proofs.Common.{◌≡◌, ℕ, zero, suc, ◌+◌, ◌<◌, ◌≤◌, Bool, true, false, ◌⊎◌, List, [], ◌∷◌, length, get_or, take, Some, None, Ok, Err, Option, Result, sym, refl, ap, ◌∙◌, subst, inl, inr, arith}
use Rattle.heap.specs.declared.faults.Problem.{Problem}
use Rattle.heap.specs.declared.faults.Problem.TheVariants.{NotDue, Operand, AtomCount}
use Rattle.heap.specs.Faults.{Report, plain, number}
use Rattle.layout.specs.declared.lines.Numbers.{Numbers}
use Rattle.sheet.specs.declared.kinds.Entry.{Entry}
use Rattle.sheet.specs.Kinds.{table, entry_for, fits}
use Rattle.sheet.specs.Reading.{Progress, start, due, scope_for, overfull, wrong, next_by, or_wrong, line_by, line_more, onward, at_place, all_lines}
use Rattle.sheet.specs.Laws.{Judged, Condition, no_kind, not_due, bad_operand, too_many, turn}
use Rattle.sheet.proofs.Checks.{tests}

pub ok_err : {A B : Type 0} {x : A} {y : B} → Ok x ≡ Err y → ⊥
ok_err e = let z : ◌≡◌ {A = ℕ} 0 1 = cc in omega arith

pub same_ok : {A E : Type 0} {o : Result A E} {x y : A} → o ≡ Ok x → o ≡ Ok y → x ≡ y
same_ok p q = cc

-- a line is refused, where those ahead of it are all right; the first has the number k
pub record RefusedAt (p : Progress) (k : ℕ) (ls : List Numbers) (e : Report) (d : Numbers) : Type 0 where
  pub line : ℕ
  pub inside : line < length ls
  pub ahead : Progress
  pub says : all_lines p k (take line ls) ≡ Ok ahead
  pub problem : Problem
  pub refused : line_more ahead (get_or ls line d) ≡ Err problem
  pub fault : e ≡ plain (number problem) (k + line)

first_line : (p : Progress) (k : ℕ) (l : Numbers) (ls : List Numbers) (e : Report) (d : Numbers) (w : Problem) → line_more p l ≡ Err w → e ≡ plain (number w) k → RefusedAt p k (l ∷ ls) e d
first_line p k l ls e d w r f =
    record { line = 0; inside = omega arith; ahead = p; says = refl; problem = w; refused = r; fault = let n : k ≡ k + 0 = omega arith in f ∙ ap (plain (number w)) n }

later_line : (p q : Progress) (k : ℕ) (l : Numbers) (ls : List Numbers) (e : Report) (d : Numbers) → line_more p l ≡ Ok q → RefusedAt q (suc k) ls e d → RefusedAt p k (l ∷ ls) e d
later_line p q k l ls e d r s =
    record {
      line = suc s.line;
      inside = let h = s.inside in omega arith;
      ahead = s.ahead;
      says = ap (λ o. onward (at_place k o) (λ u. all_lines u (suc k) (take s.line ls))) r ∙ s.says;
      problem = s.problem;
      refused = s.refused;
      fault = let n : suc k + s.line ≡ k + suc s.line = omega arith in s.fault ∙ ap (plain (number s.problem)) n;
    }

by_line : (p : Progress) (k : ℕ) (l : Numbers) (ls : List Numbers) (e : Report) (d : Numbers) → ((q : Progress) → all_lines q (suc k) ls ≡ Err e → RefusedAt q (suc k) ls e d)
    → (o : Result Progress Problem) → line_more p l ≡ o → onward (at_place k o) (λ q. all_lines q (suc k) ls) ≡ Err e → RefusedAt p k (l ∷ ls) e d
by_line p k l ls e d later (Ok q) s r = later_line p q k l ls e d s (later q r)
by_line p k l ls e d later (Err w) s r = first_line p k l ls e d w s (cc)

pub refused_at_lem : (p : Progress) (k : ℕ) (ls : List Numbers) (e : Report) (d : Numbers) → all_lines p k ls ≡ Err e → RefusedAt p k ls e d
refused_at_lem p k [] e d r = absurd (ok_err r)
refused_at_lem p k (l ∷ ls) e d r = by_line p k l ls e d (λ q. refused_at_lem q (suc k) ls e d) (line_more p l) refl r

-- of lines that are all right, each one is
pub first_right : {A : Type 0} (k : ℕ) (o : Result Progress Problem) (f : Progress → Result A Report) (r : A) → onward (at_place k o) f ≡ Ok r → (q : Progress) × (o ≡ Ok q) × (f q ≡ Ok r)
first_right k (Ok q) f r e = (q, refl, e)
first_right k (Err w) f r e = absurd (ok_err (sym e))

pub each_right : (p r q : Progress) (k : ℕ) (ls : List Numbers) (d : Numbers) (j : ℕ) → all_lines p k ls ≡ Ok r → j < length ls → all_lines p k (take j ls) ≡ Ok q → (u : Progress) × (line_more q (get_or ls j d) ≡ Ok u)
each_right p r q k [] d j a h b = absurd (omega arith)
each_right p r q k (l ∷ ls) d zero a h b =
    let s = first_right k (line_more p l) (λ u. all_lines u (suc k) ls) r a in
    let e : p ≡ q = cc in
    (s.0, subst (λ u. line_more u l ≡ Ok s.0) e s.1)
each_right p r q k (l ∷ ls) d (suc j) a h b =
    let s = first_right k (line_more p l) (λ u. all_lines u (suc k) ls) r a in
    let z = first_right k (line_more p l) (λ u. all_lines u (suc k) (take j ls)) q b in
    each_right s.0 r q (suc k) ls d j s.2 (omega arith) (subst (λ u. all_lines u (suc k) (take j ls) ≡ Ok q) (same_ok z.1 s.1) z.2)

pub none_wrong : (r p : Progress) (ls : List Numbers) (k : ℕ) (l : Numbers) (w : Problem) → all_lines start 1 ls ≡ Ok r → k < length ls → all_lines start 1 (take k ls) ≡ Ok p → l ≡ get_or ls k l → line_more p l ≡ Err w → ⊥
none_wrong r p ls k l w a h b e f =
    let u = each_right start r p 1 ls l k a h b in
    ok_err (sym u.1 ∙ (ap (line_more p) (sym e) ∙ f))

-- what is wrong with a line, by its three tests
by_tests : (d f o : Bool) (w : Problem) → tests d f o ≡ Some w → ((d ≡ false) × (w ≡ NotDue)) ⊎ (((f ≡ false) × (w ≡ Operand)) ⊎ ((o ≡ true) × (w ≡ AtomCount)))
by_tests false f o w e = inl (refl, cc)
by_tests true false o w e = inr (inl (refl, cc))
by_tests true true true w e = inr (inr (refl, cc))
by_tests true true false w e = let z : ◌≡◌ {A = ℕ} 0 1 = cc in absurd (omega arith)

-- something is wrong, and its number is at most m
abbrev Fails : Option Problem → ℕ → Type 0
Fails o m = (w : Problem) × (o ≡ Some w) × (number w ≤ m)

fails_due : (d f o : Bool) → d ≡ false → Fails (tests d f o) 111
fails_due d f o e = (NotDue, rw e, omega arith)

fails_operand : (d f o : Bool) → f ≡ false → Fails (tests d f o) 112
fails_operand true f o e = (Operand, rw e, omega arith)
fails_operand false f o e = (NotDue, refl, omega arith)

fails_count : (d f o : Bool) → o ≡ true → Fails (tests d f o) 113
fails_count true true o e = (AtomCount, rw e, omega arith)
fails_count true false o e = (Operand, refl, omega arith)
fails_count false f o e = (NotDue, refl, omega arith)

-- the line is refused, by a number that is at most m
abbrev pub LineFails : Progress → Numbers → ℕ → Type 0
LineFails p l m = (w : Problem) × (line_more p l ≡ Err w) × (number w ≤ m)

-- whether the columns of a line hold what its kind allows
abbrev pub fitting : Progress → Entry → Numbers → Bool
fitting p e l = fits (scope_for p e.role l.operands) e.classes l.operands

line_fails : (p : Progress) (l : Numbers) (e : Entry) (m : ℕ) → entry_for l.kind table ≡ Some e → Fails (wrong p e l.operands) m → LineFails p l m
line_fails p l e m s f = (f.0, ap (λ o. line_by p o l.operands) s ∙ ap (λ o. or_wrong o (next_by e.role p e.kind l.operands)) f.1, f.2)

pub unknown_fails : (p : Progress) (l : Numbers) → entry_for l.kind table ≡ None → LineFails p l 111
unknown_fails p l n = (NotDue, ap (λ o. line_by p o l.operands) n, omega arith)

pub not_due_fails : (p : Progress) (l : Numbers) (e : Entry) → entry_for l.kind table ≡ Some e → due p e.role ≡ false → LineFails p l 111
not_due_fails p l e s d = line_fails p l e 111 s (fails_due (due p e.role) (fitting p e l) (overfull p e.role) d)

pub operand_fails : (p : Progress) (l : Numbers) (e : Entry) → entry_for l.kind table ≡ Some e → fitting p e l ≡ false → LineFails p l 112
operand_fails p l e s f = line_fails p l e 112 s (fails_operand (due p e.role) (fitting p e l) (overfull p e.role) f)

pub count_fails : (p : Progress) (l : Numbers) (e : Entry) → entry_for l.kind table ≡ Some e → overfull p e.role ≡ true → LineFails p l 113
count_fails p l e s o = line_fails p l e 113 s (fails_count (due p e.role) (fitting p e l) (overfull p e.role) o)

or_wrong_lem : (o : Option Problem) (p : Progress) (w : Problem) → or_wrong o p ≡ Err w → o ≡ Some w
or_wrong_lem None p w e = absurd (ok_err e)
or_wrong_lem (Some x) p w e = cc

by_entry : (t : List ℕ) (k : ℕ) (p : Progress) (l : Numbers) (w : Problem) → Judged t k p l → (o : Option Entry) → entry_for l.kind table ≡ o → line_by p o l.operands ≡ Err w → Condition t (number w) (suc k) × (turn (number w) ≡ 2)
by_entry t k p l w j None s r = let e : NotDue ≡ w = cc in subst (λ x. Condition t (number x) (suc k) × (turn (number x) ≡ 2)) e (no_kind j s, refl)
by_entry t k p l w j (Some e) s r =
    elim (by_tests (due p e.role) (fitting p e l) (overfull p e.role) w (or_wrong_lem (wrong p e l.operands) (next_by e.role p e.kind l.operands) w r)) [
      | inl (d, q) ↦ subst (λ x. Condition t (number x) (suc k) × (turn (number x) ≡ 2)) (sym q) (not_due j s d, refl)
      | inr (inl (f, q)) ↦ subst (λ x. Condition t (number x) (suc k) × (turn (number x) ≡ 2)) (sym q) (bad_operand j s f, refl)
      | inr (inr (o, q)) ↦ subst (λ x. Condition t (number x) (suc k) × (turn (number x) ≡ 2)) (sym q) (too_many j s o, refl)
    ]

-- a line that is refused meets the condition of its number
pub line_condition : (t : List ℕ) (k : ℕ) (p : Progress) (l : Numbers) (w : Problem) → Judged t k p l → line_more p l ≡ Err w → Condition t (number w) (suc k) × (turn (number w) ≡ 2)
line_condition t k p l w j r = by_entry t k p l w j (entry_for l.kind table) refl r
