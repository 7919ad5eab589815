-- A text is read exactly if it is lines written one after another, and else the first fault in it is named.
use Rattle.std.proofs.Common.{◌≡◌, ℕ, zero, suc, ◌+◌, ◌*◌, ◌/◌, ◌<◌, ◌≤◌, false, ◌⊎◌, List, [], ◌∷◌, ◌++◌, length, get_or, take, drop, Some, None, Ok, Err, Option, Result, sym, refl, ap, ◌∙◌, subst, inl, inr, arith, take-suc}
use Rattle.std.specs.List.{flat_map, AllByRecursion}
use Rattle.std.proofs.lemmas.List.{flat_map_more, take_at, drop_at, drop-drop, take_all, take-take, drop-take, take-append-drop, length-append, length-drop, length-take-le}
use Rattle.std.proofs.lemmas.Bool.{cases_Bool, cases_eq}
use Rattle.std.proofs.lemmas.Bool.Decides.{nat_tests}
use Rattle.heap.specs.Faults.{Report, plain}
use Rattle.layout.specs.declared.lines.Numbers.{Numbers}
use Rattle.layout.specs.Columns.{column_of}
use Rattle.layout.specs.Lines.{written, numbers_in, Short}
use Rattle.layout.specs.Texts.{bad_length, behind, one_more, further, first_lines}
use Rattle.layout.specs.Laws.{BadLine, TextsRead, TextsWritten, TextsRefused, BrokenLineIsNoneWritten}
use Rattle.layout.proofs.ColumnsExact.{length-column, none_some}
use Rattle.layout.proofs.LinesExact.{reads_written, written_reads}
use Rattle.layout.proofs.TextsExact.{one_line, good_length, bad_length_lem}

ok_err : {A B : Type 0} {x : A} {y : B} → Ok x ≡ Err y → ⊥
ok_err e = let z : ◌≡◌ {A = ℕ} 0 1 = cc in omega arith

column_longer : (n m : ℕ) (rest : List ℕ) → length rest ≡ m → length (column_of n ++ rest) ≡ 4 + m
column_longer n m rest e = length-append (column_of n) rest ∙ (ap (λ k. k + length rest) (length-column n) ∙ ap (λ k. 4 + k) e)

pub length-written : (l : Numbers) → length (written l) ≡ 29
length-written l =
    column_longer l.kind 25 _ (column_longer l.operands.first 21 _ (column_longer l.operands.second 17 _
    (column_longer l.operands.third 13 _ (column_longer l.operands.fourth 9 _ (column_longer l.operands.fifth 5 _
    (column_longer l.operands.sixth 1 _ refl))))))

pub length-flat_map-written : (ls : List Numbers) → length (flat_map written ls) ≡ length ls * 29
length-flat_map-written [] = refl
length-flat_map-written (l ∷ ls) =
    let a = length-written l in
    let b = length-flat_map-written ls in
    let n : 29 + length ls * 29 ≡ suc (length ls) * 29 = omega arith in
    length-append (written l) (flat_map written ls) ∙ (ap (λ k. k + length (flat_map written ls)) a ∙ (ap (λ k. 29 + k) b ∙ n))

-- what was written stands behind the lines ahead of it
behind-written : (ls : List Numbers) (k : ℕ) (d : Numbers) → k < length ls → behind (flat_map written ls) k ≡ written (get_or ls k d)
behind-written [] k d h = absurd (omega arith)
behind-written (l ∷ ls) zero d h = take_at (written l) (flat_map written ls) 29 (length-written l)
behind-written (l ∷ ls) (suc k) d h =
    let n : suc k * 29 ≡ 29 + k * 29 = omega arith in
    ap (λ m. take 29 (drop m (written l ++ flat_map written ls))) n
    ∙ (ap (take 29) (sym (drop-drop (k * 29) 29 (written l ++ flat_map written ls)) ∙ ap (drop (k * 29)) (drop_at (written l) (flat_map written ls) 29 (length-written l)))
    ∙ behind-written ls k d (omega arith))

short_at : (ls : List Numbers) (k : ℕ) (d : Numbers) → AllByRecursion Short ls → k < length ls → Short (get_or ls k d)
short_at [] k d a h = absurd (omega arith)
short_at (l ∷ ls) zero d a h = a.0
short_at (l ∷ ls) (suc k) d a h = short_at ls k d a.1 (omega arith)

first_read : (ls : List Numbers) (d : Numbers) (k : ℕ) → AllByRecursion Short ls → k ≤ length ls → first_lines k (flat_map written ls) ≡ Ok (take k ls)
first_read ls d zero a h = refl
first_read ls d (suc k) a h =
    one_line (flat_map written ls) k (take k ls) (get_or ls k d) (first_read ls d k a (omega arith))
    (ap numbers_in (behind-written ls k d h) ∙ reads_written (get_or ls k d) (short_at ls k d a h))
    ∙ ap Ok (sym (take-suc ls k d h))

blank : Numbers
blank = record { kind = 0; operands = record { first = 0; second = 0; third = 0; fourth = 0; fifth = 0; sixth = 0 } }

pub texts_read : TextsRead
texts_read ls a some few =
    let t = flat_map written ls in
    let n = length-flat_map-written ls in
    let g : bad_length (length t) ≡ false = grind (arith, nat_tests) in
    let q : length t / 29 ≡ length ls = omega arith in
    good_length t g ∙ (ap (λ m. first_lines m t) q ∙ (first_read ls blank (length ls) a (omega arith) ∙ ap Ok (take_all (length ls) ls (omega arith))))

-- the last step of a reading that came to its end
record Stepped (o : Result (List Numbers) Report) (p : Option Numbers) (ls : List Numbers) : Type 0 where
  ahead : List Numbers
  last : Numbers
  ahead-is : o ≡ Ok ahead
  last_is : p ≡ Some last
  all : ahead ++ last ∷ [] ≡ ls

one_more_ok : (ms ls : List Numbers) (k : ℕ) (p : Option Numbers) → one_more ms k p ≡ Ok ls → Stepped (Ok ms) p ls
one_more_ok ms ls k None e = absurd (ok_err (sym e))
one_more_ok ms ls k (Some l) e = record { ahead = ms; last = l; ahead-is = refl; last_is = refl; all = cc }

stepped : (o : Result (List Numbers) Report) (ls : List Numbers) (k : ℕ) (t : List ℕ) → further o k t ≡ Ok ls → Stepped o (numbers_in (behind t k)) ls
stepped (Err e) ls k t r = absurd (ok_err (sym r))
stepped (Ok ms) ls k t r = one_more_ok ms ls k (numbers_in (behind t k)) r

-- the last step of a reading that was refused: the refusal is from before, or the line is broken
one_more_err : (ms : List Numbers) (k : ℕ) (p : Option Numbers) (e : Report) → one_more ms k p ≡ Err e → (p ≡ None) × (e ≡ plain 102 (suc k))
one_more_err ms k None e r = (refl, cc)
one_more_err ms k (Some l) e r = absurd (ok_err r)

refused_step : (o : Result (List Numbers) Report) (k : ℕ) (t : List ℕ) (e : Report) → further o k t ≡ Err e
    → (o ≡ Err e) ⊎ ((ms : List Numbers) × (o ≡ Ok ms) × (numbers_in (behind t k) ≡ None) × (e ≡ plain 102 (suc k)))
refused_step (Err d) k t e r = inl r
refused_step (Ok ms) k t e r = let s = one_more_err ms k (numbers_in (behind t k)) e r in inr (ms, refl, s.0, s.1)

all_more : (ls : List Numbers) (l : Numbers) → AllByRecursion Short ls → Short l → AllByRecursion Short (ls ++ l ∷ [])
all_more [] l a s = (s, tt)
all_more (x ∷ ls) l a s = (a.0, all_more ls l a.1 s)

take-add : {A : Type 0} (m n : ℕ) (xs : List A) → take (m + n) xs ≡ take m xs ++ take n (drop m xs)
take-add m n xs =
    sym (take-append-drop m (take (m + n) xs))
    ∙ (ap (λ ys. ys ++ drop m (take (m + n) xs)) (take-take m (m + n) xs (omega arith)) ∙ ap (λ ys. take m xs ++ ys) (drop-take m n xs))

length-behind : (t : List ℕ) (k : ℕ) → suc k * 29 ≤ length t → length (behind t k) ≡ 29
length-behind t k h = let n = length-drop (k * 29) t in length-take-le 29 (drop (k * 29) t) (omega arith)

record Front (t : List ℕ) (n : ℕ) (ls : List Numbers) : Type 0 where
  long : length ls ≡ n
  short : AllByRecursion Short ls
  text : take (n * 29) t ≡ flat_map written ls

front_more : (t : List ℕ) (n : ℕ) (ls : List Numbers) (l : Numbers) → Front t n ls → suc n * 29 ≤ length t → numbers_in (behind t n) ≡ Some l → Front t (suc n) (ls ++ l ∷ [])
front_more t n ls l f h r =
    let w = written_reads (behind t n) l (length-behind t n h) r in
    let m : suc n * 29 ≡ n * 29 + 29 = omega arith in
    let p = length-append ls (l ∷ []) in
    let q = f.long in
    record {
      long = omega arith;
      short = all_more ls l f.short w.0;
      text = ap (λ k. take k t) m ∙ (take-add (n * 29) 29 t ∙ (ap (λ xs. xs ++ behind t n) f.text ∙ (ap (λ xs. flat_map written ls ++ xs) w.1 ∙ flat_map_more written [] ls l)));
    }

front : (t : List ℕ) (n : ℕ) (ls : List Numbers) → n * 29 ≤ length t → first_lines n t ≡ Ok ls → Front t n ls
front t zero ls h r = let e : [] ≡ ls = cc in subst (λ xs. Front t zero xs) e (record { long = refl; short = tt; text = refl })
front t (suc n) ls h r =
    let s = stepped (first_lines n t) ls n t r in
    subst (λ xs. Front t (suc n) xs) s.all (front_more t n s.ahead s.last (front t n s.ahead (omega arith) s.ahead-is) h s.last_is)

pub texts_written : TextsWritten
texts_written t ls r = elim (cases_Bool (bad_length (length t))) [
  | inl b ↦ absurd (ok_err (sym r ∙ bad_length_lem t b))
  | inr g ↦
      let u : (0 < length t) × (length t ≡ length t / 29 * 29) × (length t ≤ 3567) = grind (arith, nat_tests) in
      let f = front t (length t / 29) ls (omega arith) (sym (good_length t g) ∙ r) in
      let n = f.long in
      record {
        short = f.short;
        text = sym (take_all (length t / 29 * 29) t (omega arith)) ∙ f.text;
        some_line = omega arith;
        few = omega arith;
      }
]

fine : (t : List ℕ) (n : ℕ) (ls : List Numbers) → first_lines n t ≡ Ok ls → (i : ℕ) → i < n → (l : Numbers) × (numbers_in (behind t i) ≡ Some l)
fine t zero ls r i h = absurd (omega arith)
fine t (suc n) ls r i h =
    let s = stepped (first_lines n t) ls n t r in
    elim (cases_eq i n) [
      | inl e ↦ (s.last, ap (λ k. numbers_in (behind t k)) e ∙ s.last_is)
      | inr ne ↦ fine t n s.ahead s.ahead-is i (omega arith)
    ]

first_fault : (t : List ℕ) (n : ℕ) (e : Report) → bad_length (length t) ≡ false → n * 29 ≤ length t → first_lines n t ≡ Err e → BadLine t e
first_fault t zero e g h r = absurd (ok_err r)
first_fault t (suc n) e g h r = elim (refused_step (first_lines n t) n t e r) [
  | inl q ↦ first_fault t n e g (omega arith) q
  | inr (ms, o, b, f) ↦ record { j = n; good_length = g; inside = h; fault = f; broken = b; fine_ahead = fine t n ms o }
]

pub texts_refused : TextsRefused
texts_refused t e r = elim (cases_Bool (bad_length (length t))) [
  | inl b ↦ inl (record { unfit = b; fault = let f = sym (bad_length_lem t b) ∙ r in cc })
  | inr g ↦ inr (first_fault t (length t / 29) e g (omega arith) (sym (good_length t g) ∙ r))
]

pub broken_line_is_none_written : BrokenLineIsNoneWritten
broken_line_is_none_written bs n r l s e = none_some (sym r ∙ (ap numbers_in e ∙ reads_written l s))
