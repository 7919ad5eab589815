-- A column holds a number exactly if it is how that number is written.
use Rattle.std.proofs.Common.{◌≡◌, ℕ, ◌+◌, ◌-◌, ◌*◌, ◌/◌, ◌<◌, ◌&&◌, ltb, List, length, Some, None, sym, ap, ◌∙◌, subst, inl, inr, arith}
use native.Mathlib.Nat.{div-div-eq-div-mul}
use Rattle.std.specs.Str.{bytes_eq}
use Rattle.std.proofs.lemmas.Bool.{cases_Bool, cases_lt, cond-true, cond-false, and_right, and_parts, and_from, ltb-true, lt-ltb, le-ltb}
use Rattle.std.proofs.lemmas.Slice.Eq.{bytes_eq-Decides}
use Rattle.std.proofs.lemmas.Bool.Decides.{nat_tests}
use Rattle.layout.specs.Columns.{digit_of, column_of, value_of, number_in}

pub some_same : {A : Type 0} {x y : A} → Some x ≡ Some y → x ≡ y
some_same e = cc

pub none_some : {A : Type 0} {x : A} → None ≡ Some x → ⊥
none_some {A} {x} e = let z : ◌≡◌ {A = ℕ} 0 1 = cc in omega arith

-- bytes that are not how their value is written hold no number
pub no_number : (w s : List ℕ) → s ≡ column_of (value_of w) → (w ≡ s → ⊥) → None ≡ number_in w
no_number w s e ne = elim (cases_Bool (bytes_eq (column_of (value_of w)) w)) [
  | inl t ↦ absurd (ne (sym (e ∙ (bytes_eq-Decides (column_of (value_of w)) w).0 t)))
  | inr f ↦ sym (cond-false (ltb (value_of w) 10000 && bytes_eq (column_of (value_of w)) w) (Some (value_of w)) None (and_right (ltb (value_of w) 10000) (bytes_eq (column_of (value_of w)) w) f))
]

pub length-column : (n : ℕ) → length (column_of n) ≡ 4
length-column n = grind (arith, nat_tests)

-- digits by division again and again, whatever terms name the quotients
three_digits : (n q : ℕ) → q ≡ n / 10 / 10 → n < 1000 → (digit_of q - 48) * 100 + (digit_of (n / 10) - 48) * 10 + (digit_of n - 48) ≡ n
three_digits n q e h = rw e (omega arith)

four_digits : (n q p : ℕ) → q ≡ n / 10 / 10 → p ≡ n / 10 / 10 / 10 → n < 10000 → (digit_of p - 48) * 1000 + (digit_of q - 48) * 100 + (digit_of (n / 10) - 48) * 10 + (digit_of n - 48) ≡ n
four_digits n q p e f h = rw (e, f) (omega arith)

hundreds : (n : ℕ) → n / 100 ≡ n / 10 / 10
hundreds n = sym (div-div-eq-div-mul n 10 10)

thousands : (n : ℕ) → n / 1000 ≡ n / 10 / 10 / 10
thousands n = sym (ap (λ m. m / 10) (div-div-eq-div-mul n 10 10) ∙ div-div-eq-div-mul n 100 10)

-- what is written has the value that was written
pub value_written : (n : ℕ) → n < 10000 → value_of (column_of n) ≡ n
value_written n h = elim (cases_lt n 10) [
  | inl l ↦ rw (lt-ltb n 10 l) (omega arith)
  | inr g ↦ elim (cases_lt n 100) [
    | inl l ↦ rw (le-ltb n 10 g, lt-ltb n 100 l) (omega arith)
    | inr g2 ↦ elim (cases_lt n 1000) [
      | inl l ↦ let d = three_digits n (n / 100) (hundreds n) l in rw (le-ltb n 10 g, le-ltb n 100 g2, lt-ltb n 1000 l) (omega arith)
      | inr g3 ↦ let d = four_digits n (n / 100) (n / 1000) (hundreds n) (thousands n) h in rw (le-ltb n 10 g, le-ltb n 100 g2, le-ltb n 1000 g3, lt-ltb n 10000 h) d
    ]
  ]
]

-- the two ways between bytes and numbers
pub number_of_column : (n : ℕ) → n < 10000 → number_in (column_of n) ≡ Some n
number_of_column n h =
    let w = column_of n in
    let v = value_written n h in
    cond-true (ltb (value_of w) 10000 && bytes_eq (column_of (value_of w)) w) (Some (value_of w)) None
    (and_from (ltb (value_of w) 10000) (bytes_eq (column_of (value_of w)) w)
    (lt-ltb (value_of w) 10000 (subst (λ m. m < 10000) (sym v) h))
    ((bytes_eq-Decides (column_of (value_of w)) w).1 (ap column_of v)))
    ∙ ap Some v

pub column_of_number : (w : List ℕ) (n : ℕ) → number_in w ≡ Some n → (n < 10000) × (w ≡ column_of n)
column_of_number w n e = elim (cases_Bool (ltb (value_of w) 10000 && bytes_eq (column_of (value_of w)) w)) [
  | inl t ↦
      let b = and_parts (ltb (value_of w) 10000) (bytes_eq (column_of (value_of w)) w) t in
      let v : value_of w ≡ n = some_same (sym (cond-true (ltb (value_of w) 10000 && bytes_eq (column_of (value_of w)) w) (Some (value_of w)) None t) ∙ e) in
      (subst (λ m. m < 10000) v (ltb-true (value_of w) 10000 b.0), sym ((bytes_eq-Decides (column_of (value_of w)) w).0 b.1) ∙ ap column_of v)
  | inr f ↦ absurd (none_some (sym (cond-false (ltb (value_of w) 10000 && bytes_eq (column_of (value_of w)) w) (Some (value_of w)) None f) ∙ e))
]
