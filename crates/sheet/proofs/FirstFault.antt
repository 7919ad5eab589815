-- A refusal of a text names the first thing that is wrong with it.
use Rattle.std.proofs.Common.{◌≡◌, ℕ, suc, ◌+◌, ◌*◌, ◌/◌, ◌<◌, ◌≤◌, true, false, ◌⊎◌, List, length, get_or, take, Some, None, Ok, Err, Option, Result, sym, refl, ap, ◌∙◌, subst, inl, inr, arith}
use Rattle.std.proofs.lemmas.List.{get_or_default, get_or-take, take-take, length-take-le}
use Rattle.std.proofs.lemmas.Bool.{both_ways, cases_Bool, cond-true, cond-false}
use Rattle.heap.specs.declared.faults.Problem.{Problem}
use Rattle.heap.specs.Faults.{Report, plain, number}
use Rattle.layout.specs.declared.lines.Numbers.{Numbers}
use Rattle.layout.specs.Lines.{numbers_in}
use Rattle.layout.specs.Texts.{bad_length, behind, first_lines, lines_of}
use Rattle.layout.specs.Laws.{BadLine}
use Rattle.layout.proofs.ColumnsExact.{none_some}
use Rattle.layout.proofs.TextsExact.{stays_refused, broken_line as refused-behind, good_length, bad_length_lem}
use Rattle.layout.proofs.TextsWritten.{texts_refused}
use Rattle.sheet.specs.Routines.{Routine}
use Rattle.sheet.specs.Flow.{misplaced, Heavy, InPlace}
use Rattle.sheet.specs.Reading.{Progress, start, line_more, onward, all_lines, complete, first_misplaced, heavy_piece, refused_at, rows_tested, finished, reading}
use Rattle.sheet.specs.Laws.{Judged, Whole, Condition, wrong_length, broken_line, no_kind, not_due, missing, bad_operand, too_many, wrong_place, too_heavy, turn, Ahead, First, RefusalsFirst}
use Rattle.sheet.proofs.RowPlaces.{misplaced_none, misplaced-first}
use Rattle.sheet.proofs.WeightsExact.{heavy_none, heavy_first}
use Rattle.sheet.proofs.LineFaults.{ok_err, same_ok, RefusedAt, refused_at_lem, none_wrong, LineFails, unknown_fails, not_due_fails, operand_fails, count_fails, line_condition}

same_err : {A : Type 0} {x y : Report} → ◌≡◌ {A = Result A Report} (Err x) (Err y) → x ≡ y
same_err e = cc

blank : Numbers
blank = record { kind = 0; operands = record { first = 0; second = 0; third = 0; fourth = 0; fifth = 0; sixth = 0 } }

-- the first of two steps is refused, or the second
refused_where : {A B E : Type 0} (o : Result A E) (f : A → Result B E) (e : E) → onward o f ≡ Err e → (o ≡ Err e) ⊎ ((x : A) × (o ≡ Ok x) × (f x ≡ Err e))
refused_where (Ok x) f e r = inr (x, refl, r)
refused_where (Err d) f e r = inl (let q : d ≡ e = cc in ap Err q)

row_refused : (n : ℕ) (o : Option ℕ) (other : Result Routine Report) (e : Report) → refused_at n o other ≡ Err e → ((i : ℕ) × (o ≡ Some i) × (e ≡ plain n i)) ⊎ ((o ≡ None) × (other ≡ Err e))
row_refused n (Some i) other e r = inl (i, refl, sym (same_err r))
row_refused n None other e r = inr (refl, r)

-- where a condition holds in a text that has lines
data Found (t : List ℕ) (ls : List Numbers) (m q : ℕ) : Type 0 where
  in_line : (k : ℕ) (p : Progress) (l : Numbers) → q ≡ suc k → turn m ≡ 2 → k < length ls → all_lines start 1 (take k ls) ≡ Ok p → l ≡ get_or ls k l → LineFails p l m → Found t ls m q
  at_end : (p : Progress) → m ≡ 111 → q ≡ suc (length ls) → all_lines start 1 ls ≡ Ok p → complete p ≡ false → Found t ls m q
  in_rows : (p : Progress) → m ≡ 114 → all_lines start 1 ls ≡ Ok p → 1 ≤ q → q ≤ length p.routine.rows → misplaced p.routine.rows q ≡ true → Found t ls m q
  in_pieces : (p : Progress) → m ≡ 115 → all_lines start 1 ls ≡ Ok p → Heavy p.routine.rows q → Found t ls m q

-- the two conditions of a text that has none
data Unread (t : List ℕ) (m q : ℕ) : Type 0 where
  by_length : m ≡ 101 → bad_length (length t) ≡ true → Unread t m q
  by_layout : (k : ℕ) → m ≡ 102 → q ≡ suc k → bad_length (length t) ≡ false → suc k * 29 ≤ length t → numbers_in (behind t k) ≡ None → Unread t m q

abbrev Sorted : List ℕ → ℕ → ℕ → Type 0
Sorted t m q = Unread t m q ⊎ ((ls : List Numbers) × (lines_of t ≡ Ok ls) × Found t ls m q)

in_judged : (t : List ℕ) (m k : ℕ) (p : Progress) (l : Numbers) → turn m ≡ 2 → Judged t k p l → LineFails p l m → Sorted t m (suc k)
in_judged t m k p l two j f = inr (j.lines, j.read, in_line k p l refl two j.inside j.says j.line f)

sorted : (t : List ℕ) (m q : ℕ) → Condition t m q → Sorted t m q
sorted t m q (wrong_length b) = inl (by_length refl b)
sorted t m q (broken_line {k = k} b h n) = inl (by_layout k refl refl b h n)
sorted t m q (no_kind {k = k} {p = p} {l = l} j n) = in_judged t 111 k p l refl j (unknown_fails p l n)
sorted t m q (not_due {k = k} {p = p} {l = l} {e = e} j s d) = in_judged t 111 k p l refl j (not_due_fails p l e s d)
sorted t m q (missing {p = p} ls r a c) = inr (ls, r, at_end p refl refl a c)
sorted t m q (bad_operand {k = k} {p = p} {l = l} {e = e} j s f) = in_judged t 112 k p l refl j (operand_fails p l e s f)
sorted t m q (too_many {k = k} {p = p} {l = l} {e = e} j s o) = in_judged t 113 k p l refl j (count_fails p l e s o)
sorted t m q (wrong_place {R = R} {i = i} w h l b) =
    inr (w.lines, w.read, in_rows w.progress refl w.says h (subst (λ S. i ≤ length S.rows) (sym w.routine) l) (subst (λ S. misplaced S.rows i ≡ true) (sym w.routine) b))
sorted t m q (too_heavy {R = R} {p = p} w h) = inr (w.lines, w.read, in_pieces w.progress refl w.says (subst (λ S. Heavy S.rows p) (sym w.routine) h))

-- a text with lines is not unread
behind_refused : (t : List ℕ) (k n : ℕ) (o : Result (List Numbers) Report) → first_lines k t ≡ o → k < n → numbers_in (behind t k) ≡ None → (e : Report) × (first_lines n t ≡ Err e)
behind_refused t k n (Ok ls) r h b = (plain 102 (suc k), refused-behind t n k ls r b h)
behind_refused t k n (Err e) r h b = (e, stays_refused t e n k r (omega arith))

read_not_unread : (t : List ℕ) (ls : List Numbers) (m q : ℕ) → lines_of t ≡ Ok ls → Unread t m q → ⊥
read_not_unread t ls m q r (by_length n b) = ok_err (sym r ∙ bad_length_lem t b)
read_not_unread t ls m q r (by_layout k n p b h x) =
    let z = behind_refused t k (length t / 29) (first_lines k t) refl (omega arith) x in
    ok_err (sym r ∙ (good_length t b ∙ z.1))

found : (t : List ℕ) (ls : List Numbers) (m q : ℕ) → lines_of t ≡ Ok ls → Condition t m q → Found t ls m q
found t ls m q r c = elim (sorted t m q c) [
  | inl u ↦ absurd (read_not_unread t ls m q r u)
  | inr (ms, s, f) ↦ subst (λ xs. Found t xs m q) (same_ok s r) f
]

-- an order by turns
ordered : {X : Type 0} (a b : ℕ) → ((a < b) ⊎ ((a ≡ b) × X)) → a ≤ b
ordered a b (inl h) = omega arith
ordered a b (inr h) = let e = h.0 in omega arith

same_turn : {X : Type 0} (a b : ℕ) → a ≡ b → ((a < b) ⊎ ((a ≡ b) × X)) → X
same_turn a b e (inl h) = absurd (omega arith)
same_turn a b e (inr h) = h.1

-- a number whose turn is later is not ahead
not_later : (m q n p c : ℕ) → m ≡ c → Ahead m q n p → turn n < turn c → ⊥
not_later m q n p c e a h = let o = ordered (turn m) (turn n) a in let f : turn m ≡ turn c = ap turn e in omega (arith, o, f, h)

not_itself : (m q n p : ℕ) → m ≡ n → q ≡ p → Ahead m q n p → ⊥
not_itself m q n p e f a = elim (same_turn (turn m) (turn n) (ap turn e) a) [
  | inl h ↦ omega arith
  | inr h ↦ let l = h.1 in omega arith
]

-- the length, and a line's layout
found_turn : (t : List ℕ) (ls : List Numbers) (m q : ℕ) → Found t ls m q → 2 ≤ turn m
found_turn t ls m q (in_line k p l e two h a g f) = omega (arith, two)
found_turn t ls m q (at_end p e f a c) = let z : turn m ≡ 2 = ap turn e in omega (arith, z)
found_turn t ls m q (in_rows p e a h l b) = let z : turn m ≡ 3 = ap turn e in omega (arith, z)
found_turn t ls m q (in_pieces p e a h) = let z : turn m ≡ 4 = ap turn e in omega (arith, z)

not_before_length : (t : List ℕ) (m q : ℕ) → Ahead m q 101 0 → Sorted t m q → ⊥
not_before_length t m q a (inl (by_length e b)) = elim (same_turn (turn m) 0 (ap turn e) a) [
  | inl h ↦ omega arith
  | inr h ↦ let l = h.1 in omega arith
]
not_before_length t m q a (inl (by_layout k e p b h x)) = not_later m q 101 0 102 e a (omega arith)
not_before_length t m q a (inr (ls, r, f)) = let o = ordered (turn m) 0 a in let g = found_turn t ls m q f in omega (arith, o, g)

not_before_line : (t : List ℕ) (e : Report) (b : BadLine t e) (m q : ℕ) → Ahead m q 102 (suc b.j) → Sorted t m q → ⊥
not_before_line t e b m q a (inl (by_length n x)) = both_ways (bad_length (length t)) b.good_length x
not_before_line t e b m q a (inl (by_layout k n p g h x)) = elim (same_turn (turn m) 1 (ap turn n) a) [
  | inl l ↦
      let f = b.fine_ahead k (omega arith) in
      none_some (sym x ∙ f.1)
  | inr l ↦ let u = l.1 in omega arith
]
not_before_line t e b m q a (inr (ls, r, f)) = let o = ordered (turn m) 1 a in let g = found_turn t ls m q f in omega (arith, o, g)

text_first : (t : List ℕ) (e : Report) → lines_of t ≡ Err e → First t e
text_first t e r = elim (texts_refused t e r) [
  | inl b ↦ record { number = 101; place = 0; fault = b.fault; holds = wrong_length b.unfit; none_ahead = λ m q a c. not_before_length t m q a (sorted t m q c) }
  | inr b ↦ record { number = 102; place = suc b.j; fault = b.fault; holds = broken_line b.good_length b.inside b.broken; none_ahead = λ m q a c. not_before_line t e b m q a (sorted t m q c) }
]

-- a line
earlier_line : (ls : List Numbers) (j : ℕ) (r p : Progress) (k : ℕ) (l : Numbers) (w : Problem) → all_lines start 1 (take j ls) ≡ Ok r → j < length ls → k < j → all_lines start 1 (take k ls) ≡ Ok p → l ≡ get_or ls k l → line_more p l ≡ Err w → ⊥
earlier_line ls j r p k l w a i h s g f =
    let n = length-take-le j ls (omega arith) in
    none_wrong r p (take j ls) k l w a (omega arith) (ap (all_lines start 1) (take-take k j ls (omega arith)) ∙ s) (g ∙ sym (get_or-take j ls k l h)) f

same_line : (ls : List Numbers) (j k : ℕ) (q p : Progress) (d l : Numbers) (v w : Problem) → k ≡ j → k < length ls → all_lines start 1 (take j ls) ≡ Ok q → line_more q (get_or ls j d) ≡ Err v
    → all_lines start 1 (take k ls) ≡ Ok p → l ≡ get_or ls k l → line_more p l ≡ Err w → number v ≡ number w
same_line ls j k q p d l v w e h a r s g f =
    let x : l ≡ get_or ls j d = g ∙ (get_or_default ls k l d h ∙ ap (λ i. get_or ls i d) e) in
    let y : q ≡ p = same_ok a (sym (ap (λ i. all_lines start 1 (take i ls)) e) ∙ s) in
    let z : line_more q (get_or ls j d) ≡ line_more p l = ap (λ u. line_more u (get_or ls j d)) y ∙ ap (line_more p) (sym x) in
    let o : Err v ≡ Err w = sym r ∙ (z ∙ f) in
    let b : v ≡ w = cc in ap number b

module _ (t : List ℕ) (ls : List Numbers) (e : Report) (d : Numbers) (s : RefusedAt start 1 ls e d) (two : turn (number s.problem) ≡ 2) where
  not_before_refused : all_lines start 1 ls ≡ Err e → (m q : ℕ) → Ahead m q (number s.problem) (suc s.line) → Found t ls m q → ⊥
  not_before_refused r m q a (in_line k p l n tm h y g (w, f, u)) = elim (same_turn (turn m) (turn (number s.problem)) (tm ∙ sym two) a) [
    | inl i ↦ earlier_line ls s.line s.ahead p k l w s.says s.inside (omega arith) y g f
    | inr i ↦
        let c = i.0 in
        let x = i.1 in
        let v = same_line ls s.line k s.ahead p d l s.problem w (omega arith) h s.says s.refused y g f in
        omega (arith, v, u, x)
  ]
  not_before_refused r m q a (at_end p n f y c) = ok_err (sym y ∙ r)
  not_before_refused r m q a (in_rows p n y h l b) = ok_err (sym y ∙ r)
  not_before_refused r m q a (in_pieces p n y h) = ok_err (sym y ∙ r)

line_first : (t : List ℕ) (ls : List Numbers) (e : Report) → lines_of t ≡ Ok ls → all_lines start 1 ls ≡ Err e → First t e
line_first t ls e r a =
    let s = refused_at_lem start 1 ls e blank a in
    let g = get_or ls s.line blank in
    let j : Judged t s.line s.ahead g = record { lines = ls; read = r; inside = s.inside; says = s.says; line = get_or_default ls s.line blank g s.inside } in
    let c = line_condition t s.line s.ahead g s.problem j s.refused in
    let n : 1 + s.line ≡ suc s.line = omega arith in
    record {
      number = number s.problem;
      place = suc s.line;
      fault = s.fault ∙ ap (plain (number s.problem)) n;
      holds = c.0;
      none_ahead = λ m q h x. not_before_refused t ls e blank s c.1 a m q h (found t ls m q r x);
    }

-- rows that are missing, in the wrong place, or heavy together
module _ (t : List ℕ) (ls : List Numbers) (p : Progress) (read : lines_of t ≡ Ok ls) (says : all_lines start 1 ls ≡ Ok p) where
  not_before_end : (m q : ℕ) → Ahead m q 111 (suc (length ls)) → Found t ls m q → ⊥
  not_before_end m q a (in_line k r l n two h y g (w, f, u)) = none_wrong p r ls k l w says h y g f
  not_before_end m q a (at_end r e f y c) = not_itself m q 111 (suc (length ls)) e f a
  not_before_end m q a (in_rows r e y h l b) = not_later m q 111 (suc (length ls)) 114 e a (omega arith)
  not_before_end m q a (in_pieces r e y h) = not_later m q 111 (suc (length ls)) 115 e a (omega arith)

  missing_first : (e : Report) → complete p ≡ false → e ≡ plain 111 (suc (length ls)) → First t e
  missing_first e c f =
      record { number = 111; place = suc (length ls); fault = f; holds = missing ls read says c; none_ahead = λ m q a x. not_before_end m q a (found t ls m q read x) }

  module _ (whole : complete p ≡ true) where
    incomplete : (r : Progress) → all_lines start 1 ls ≡ Ok r → complete r ≡ false → ⊥
    incomplete r y c = both_ways (complete p) (subst (λ u. complete u ≡ false) (same_ok y says) c) whole

    not_before_row : (i m q : ℕ) → ((j : ℕ) → 1 ≤ j → j < i → misplaced p.routine.rows j ≡ false) → Ahead m q 114 i → Found t ls m q → ⊥
    not_before_row i m q b a (in_line k r l n two h y g (w, f, u)) = none_wrong p r ls k l w says h y g f
    not_before_row i m q b a (at_end r e f y c) = incomplete r y c
    not_before_row i m q b a (in_rows r e y h l x) = elim (same_turn (turn m) 3 (ap turn e) a) [
      | inl g ↦ both_ways (misplaced p.routine.rows q) (b q h g) (subst (λ u. misplaced u.routine.rows q ≡ true) (same_ok y says) x)
      | inr g ↦ let z = g.1 in omega arith
    ]
    not_before_row i m q b a (in_pieces r e y h) = not_later m q 114 i 115 e a (omega arith)

    -- where all rows are in place, only a piece can be wrong
    only_heavy : (m q : ℕ) → InPlace p.routine.rows → Found t ls m q → (m ≡ 115) × Heavy p.routine.rows q
    only_heavy m q ip (in_line k r l n two h y g (w, f, u)) = absurd (none_wrong p r ls k l w says h y g f)
    only_heavy m q ip (at_end r e f y c) = absurd (incomplete r y c)
    only_heavy m q ip (in_rows r e y h l x) =
        absurd (both_ways (misplaced p.routine.rows q) (ip q h (subst (λ u. q ≤ length u.routine.rows) (same_ok y says) l)) (subst (λ u. misplaced u.routine.rows q ≡ true) (same_ok y says) x))
    only_heavy m q ip (in_pieces r e y h) = (e, subst (λ u. Heavy u.routine.rows q) (same_ok y says) h)

    not_before_piece : (i m q : ℕ) → ((j : ℕ) → j < i → Heavy p.routine.rows j → ⊥) → Ahead m q 115 i → (m ≡ 115) × Heavy p.routine.rows q → ⊥
    not_before_piece i m q b a (e, h) = elim (same_turn (turn m) 4 (ap turn e) a) [
      | inl g ↦ b q g h
      | inr g ↦ let z = g.1 in omega arith
    ]

    the_whole : Whole t p.routine
    the_whole = record { lines = ls; read = read; progress = p; says = says; full = whole; routine = refl }

    row_first : (e : Report) (i : ℕ) → first_misplaced p.routine.rows 1 p.routine.rows ≡ Some i → e ≡ plain 114 i → First t e
    row_first e i s f =
        let g = misplaced-first p.routine.rows i s in
        record { number = 114; place = i; fault = f; holds = wrong_place the_whole g.0 g.1 g.2; none_ahead = λ m q a x. not_before_row i m q g.3 a (found t ls m q read x) }

    piece_first : (e : Report) (i : ℕ) → first_misplaced p.routine.rows 1 p.routine.rows ≡ None → heavy_piece p.routine.rows ≡ Some i → e ≡ plain 115 i → First t e
    piece_first e i n s f =
        let ip = misplaced_none p.routine.rows n in
        let g = heavy_first p.routine.rows ip i s in
        record { number = 115; place = i; fault = f; holds = too_heavy the_whole g.0; none_ahead = λ m q a x. not_before_piece i m q g.1 a (only_heavy m q ip (found t ls m q read x)) }

    rows_first : (e : Report) → rows_tested p.routine ≡ Err e → First t e
    rows_first e r = elim (row_refused 114 (first_misplaced p.routine.rows 1 p.routine.rows) _ e r) [
      | inl (i, s, f) ↦ row_first e i s f
      | inr (n, x) ↦ elim (row_refused 115 (heavy_piece p.routine.rows) _ e x) [
        | inl (i, s, f) ↦ piece_first e i n s f
        | inr (o, y) ↦ absurd (ok_err y)
      ]
    ]

  end_first : (e : Report) → finished (length ls) p ≡ Err e → First t e
  end_first e r = elim (cases_Bool (complete p)) [
    | inl c ↦ rows_first c e (sym (cond-true (complete p) (rows_tested p.routine) (Err (plain 111 (suc (length ls)))) c) ∙ r)
    | inr c ↦ missing_first e c (same_err (sym r ∙ cond-false (complete p) (rows_tested p.routine) (Err (plain 111 (suc (length ls)))) c))
  ]

pub refusals_first : RefusalsFirst
unfolding reading
refusals_first t e r = elim (refused_where (lines_of t) (λ ls. onward (all_lines start 1 ls) (λ p. finished (length ls) p)) e r) [
  | inl s ↦ text_first t e s
  | inr (ls, s, a) ↦ elim (refused_where (all_lines start 1 ls) (λ p. finished (length ls) p) e a) [
    | inl b ↦ line_first t ls e s b
    | inr (p, b, c) ↦ end_first t ls p s b e c
  ]
]

-- a text that reads meets no condition
pub right_where : {A B E : Type 0} (o : Result A E) (f : A → Result B E) (y : B) → onward o f ≡ Ok y → (x : A) × (o ≡ Ok x) × (f x ≡ Ok y)
right_where (Ok x) f y r = (x, refl, r)
right_where (Err d) f y r = absurd (ok_err (sym r))

pub rows_right : (n : ℕ) (o : Option ℕ) (other : Result Routine Report) (R : Routine) → refused_at n o other ≡ Ok R → (o ≡ None) × (other ≡ Ok R)
rows_right n (Some i) other R r = absurd (ok_err (sym r))
rows_right n None other R r = (refl, r)

pub finished_right : (k : ℕ) (p : Progress) (R : Routine) → finished k p ≡ Ok R → (complete p ≡ true) × (rows_tested p.routine ≡ Ok R)
finished_right k p R r = elim (cases_Bool (complete p)) [
  | inl c ↦ (c, sym (cond-true (complete p) (rows_tested p.routine) (Err (plain 111 (suc k))) c) ∙ r)
  | inr c ↦ absurd (ok_err (sym r ∙ cond-false (complete p) (rows_tested p.routine) (Err (plain 111 (suc k))) c))
]

none_found : (t : List ℕ) (ls : List Numbers) (p : Progress) (R : Routine) → lines_of t ≡ Ok ls → all_lines start 1 ls ≡ Ok p → finished (length ls) p ≡ Ok R → (m q : ℕ) → Found t ls m q → ⊥
none_found t ls p R read says r m q f =
    let c = finished_right (length ls) p R r in
    let a = rows_right 114 (first_misplaced p.routine.rows 1 p.routine.rows) _ R c.1 in
    let b = rows_right 115 (heavy_piece p.routine.rows) _ R a.1 in
    let ip = misplaced_none p.routine.rows a.0 in
    heavy_none p.routine.rows ip b.0 q (only_heavy t ls p read says c.0 m q ip f).1

pub reads_right : (t : List ℕ) (R : Routine) → reading t ≡ Ok R → (m q : ℕ) → Condition t m q → ⊥
unfolding reading
reads_right t R r m q c =
    let s = right_where (lines_of t) (λ ls. onward (all_lines start 1 ls) (λ p. finished (length ls) p)) R r in
    let a = right_where (all_lines start 1 s.0) (λ p. finished (length s.0) p) R s.2 in
    none_found t s.0 a.0 R s.1 a.1 a.2 m q (found t s.0 m q s.1 c)
