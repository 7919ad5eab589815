-- The rows that lie in a body, one by one.
use Rattle.std.proofs.Common.{◌≡◌, ℕ, suc, ◌+◌, ◌<◌, ◌≤◌, Bool, true, false, not, ◌&&◌, ◌||◌, eqb, List, length, get_or, drop, Some, sym, ap, ◌∙◌, add-one, arith}
use lib.ListN.{length-map}
use Rattle.std.proofs.lemmas.Bool.{cond-true, cond-false, eq-eqb, ne_eqb}
use Rattle.std.proofs.lemmas.List.{get_or-map, get_or_past, at_drop_more}
use Rattle.sheet.specs.declared.rows.Row.{Row}
use Rattle.sheet.specs.declared.sheets.Body.{Body}
use Rattle.sheet.specs.Routines.{Command, done}
use Rattle.sheet.specs.Laid.{command_in}
use Rattle.sheet.specs.Flow.{row_at, bad_target, ends, misplaced}
use Rattle.sheet.specs.Reading.{first_misplaced}
use Rattle.sheet.specs.ModelReading.{rows_in}

pub length-rows : (b : Body) → length (rows_in b) ≡ length b.rows.items
length-rows b = length-map b.rows.items command_in

pub row_in : (b : Body) (i : ℕ) (r : Row) → i < length b.rows.items → command_in (get_or b.rows.items i r) ≡ get_or (rows_in b) i done
row_in b i r l = sym (get_or-map command_in b.rows.items i r done l)

-- the row that a turn of a loop over the rows has
pub row_now : (b : Body) (i : ℕ) (rows : List Row) (r : Row) → rows ≡ b.rows.items → i < length rows → command_in (get_or rows i r) ≡ get_or (rows_in b) i done
row_now b i rows r e h =
    let l = ap (λ xs. length xs) e in
    ap (λ xs. command_in (get_or xs i r)) e ∙ row_in b i r (omega arith)

pub row_behind : (b : Body) (i : ℕ) → length b.rows.items ≤ i → done ≡ get_or (rows_in b) i done
row_behind b i l = let n = length-rows b in sym (get_or_past (rows_in b) i done (omega arith))

-- the search for a misplaced row, step by step
pub misplaced_here : (rows : List Command) (i : ℕ) → i < length rows → misplaced rows (i + 1) ≡ true → first_misplaced rows (i + 1) (drop i rows) ≡ Some (i + 1)
misplaced_here rows i h m = at_drop_more (first_misplaced rows (i + 1)) rows i done h ∙ cond-true (misplaced rows (i + 1)) (Some (i + 1)) (first_misplaced rows (suc (i + 1)) (drop (i + 1) rows)) m

pub misplaced_later : (rows : List Command) (i : ℕ) → i < length rows → misplaced rows (i + 1) ≡ false → first_misplaced rows (i + 1) (drop i rows) ≡ first_misplaced rows (i + 1 + 1) (drop (i + 1) rows)
misplaced_later rows i h m =
    at_drop_more (first_misplaced rows (i + 1)) rows i done h
    ∙ (cond-false (misplaced rows (i + 1)) (Some (i + 1)) (first_misplaced rows (suc (i + 1)) (drop (i + 1) rows)) m
    ∙ ap (λ n. first_misplaced rows n (drop (i + 1) rows)) (sym (add-one (i + 1))))

-- whether a row is misplaced, from what is known of the row
pub misplaced-by : (rows : List Command) (c : Command) (i n : ℕ) → c ≡ row_at rows i → length rows ≡ n → misplaced rows i ≡ (bad_target rows i c || (eqb i n && not (ends c)))
misplaced-by rows c i n e l =
    ap (λ x. bad_target rows i x || (eqb i (length rows) && not (ends x))) (sym e)
    ∙ ap (λ m. bad_target rows i c || (eqb i m && not (ends c))) l

pub misplaced_last : (rows : List Command) (c : Command) (i n : ℕ) (b : Bool) → c ≡ row_at rows i → length rows ≡ n → bad_target rows i c ≡ false → i ≡ n → b ≡ ends c → not b ≡ misplaced rows i
misplaced_last rows c i n b e l t q f =
    sym (misplaced-by rows c i n e l
    ∙ (ap (λ x. x || (eqb i n && not (ends c))) t
    ∙ (ap (λ x. x && not (ends c)) (eq-eqb i n q) ∙ ap not (sym f))))

pub misplaced_inner : (rows : List Command) (c : Command) (i n : ℕ) → c ≡ row_at rows i → length rows ≡ n → bad_target rows i c ≡ false → (i ≡ n → ⊥) → eqb i n ≡ misplaced rows i
misplaced_inner rows c i n e l t q =
    ne_eqb i n q ∙ sym (misplaced-by rows c i n e l
    ∙ (ap (λ x. x || (eqb i n && not (ends c))) t
    ∙ ap (λ x. x && not (ends c)) (ne_eqb i n q)))
