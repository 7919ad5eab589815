-- The lines of a text are read one after another, and the first broken one decides.
use Rattle.std.specs.Simd.{first_chunks}
use Rattle.std.proofs.lemmas.List.{drop-drop}
use Rattle.std.proofs.Math.Nat.{zero-mul, suc-mul, add_comm}
use Rattle.std.proofs.Common.{sym, get_or, ◌≡◌, ℕ, zero, suc, ◌*◌, ◌/◌, ◌<◌, ◌≤◌, true, false, List, [], ◌∷◌, ◌++◌, length, take, drop, Some, None, Ok, Err, ap, ◌∙◌, subst, inl, inr, arith}
use Rattle.std.proofs.lemmas.Bool.{cases_eq, cond-false, cond-true}
use Rattle.heap.specs.Faults.{Report, plain}
use Rattle.layout.specs.declared.lines.Numbers.{Numbers}
use Rattle.layout.specs.Lines.{numbers_in}
use Rattle.layout.specs.Texts.{bad_length, behind, one_more, further, first_lines, lines_of}

-- a refusal of the first k lines is one of more lines
pub stays_refused : (t : List ℕ) (e : Report) (n k : ℕ) → first_lines k t ≡ Err e → k ≤ n → first_lines n t ≡ Err e
stays_refused t e zero k r h = let z : k ≡ 0 = omega arith in subst (λ m. first_lines m t ≡ Err e) z r
stays_refused t e (suc n) k r h = elim (cases_eq k (suc n)) [
  | inl q ↦ subst (λ m. first_lines m t ≡ Err e) q r
  | inr ne ↦ ap (λ o. further o n t) (stays_refused t e n k r (omega arith))
]

pub one_line : (t : List ℕ) (k : ℕ) (ls : List Numbers) (l : Numbers) → first_lines k t ≡ Ok ls → numbers_in (behind t k) ≡ Some l → first_lines (suc k) t ≡ Ok (ls ++ l ∷ [])
one_line t k ls l r s = ap (λ o. further o k t) r ∙ ap (one_more ls k) s

pub broken_line : (t : List ℕ) (n k : ℕ) (ls : List Numbers) → first_lines k t ≡ Ok ls → numbers_in (behind t k) ≡ None → k < n → first_lines n t ≡ Err (plain 102 (suc k))
broken_line t n k ls r s h = stays_refused t (plain 102 (suc k)) n (suc k) (ap (λ o. further o k t) r ∙ ap (one_more ls k) s) h

pub good_length : (t : List ℕ) → bad_length (length t) ≡ false → lines_of t ≡ first_lines (length t / 29) t
unfolding lines_of
good_length t e = cond-false (bad_length (length t)) (Err (plain 101 0)) (first_lines (length t / 29) t) e

pub bad_length_lem : (t : List ℕ) → bad_length (length t) ≡ true → lines_of t ≡ Err (plain 101 0)
unfolding lines_of
bad_length_lem t e = cond-true (bad_length (length t)) (Err (plain 101 0)) (first_lines (length t / 29) t) e

-- a line's bytes as the code cuts them
pub chunk_is : (n k : ℕ) (t : List ℕ) (i : ℕ) → i < k → get_or (first_chunks n k t) i [] ≡ take n (drop (i * n) t)
chunk_is n zero t i h = absurd (omega arith)
chunk_is n (suc k) t zero h = ap (λ m. take n (drop m t)) (sym (zero-mul n))
chunk_is n (suc k) t (suc i) h =
    chunk_is n k (drop n t) i (omega arith)
    ∙ (ap (take n) (drop-drop (i * n) n t) ∙ ap (λ m. take n (drop m t)) (add_comm n (i * n) ∙ sym (suc-mul i n)))

pub part_is : (t : List ℕ) (whole : List (List ℕ)) (k : ℕ) → whole ≡ first_chunks 29 (length t / 29) t → k < length t / 29 → get_or whole k [] ≡ behind t k
part_is t whole k e h = ap (λ ls. get_or ls k []) e ∙ chunk_is 29 (length t / 29) t k h
