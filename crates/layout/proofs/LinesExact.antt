-- A line holds numbers exactly if it is how those numbers are written.
use Rattle.std.proofs.Common.{◌≡◌, ℕ, ◌+◌, ◌<◌, Bool, true, false, cond, eqb, List, [], ◌∷◌, ◌++◌, length, get_or, take, drop, Some, None, Option, sym, refl, ap, ◌∙◌, subst, arith}
use Rattle.std.specs.Bool.{then_some}
use Rattle.std.proofs.lemmas.List.{take_at, drop_at, take-append-drop, drop-drop, drop_all, drop_more, get_or-drop}
use Rattle.std.proofs.lemmas.Bool.{cond-true, cond-false, eqb-true, eq-eqb, ne_eqb}
use Rattle.layout.specs.Columns.{column_of, number_in}
use Rattle.layout.specs.Lines.{written, given, column_at, numbers_in, Short}
use Rattle.layout.specs.declared.lines.Numbers.{Numbers}
use Rattle.layout.proofs.ColumnsExact.{number_of_column, column_of_number, length-column, some_same, none_some}

-- what stands if a test is passed
pub some_if : {A : Type 0} (b : Bool) (x : A) → then_some b x ≡ cond b (Some x) None
some_if true x = refl
some_if false x = refl

-- seven columns that are all there
all_given : {o p q r s t u : Option ℕ} (k a b c d e f : ℕ) (F : ℕ → ℕ → ℕ → ℕ → ℕ → ℕ → ℕ → Option Numbers)
    → o ≡ Some k → p ≡ Some a → q ≡ Some b → r ≡ Some c → s ≡ Some d → t ≡ Some e → u ≡ Some f
    → given o (λ k. given p (λ a. given q (λ b. given r (λ c. given s (λ d. given t (λ e. given u (λ f. F k a b c d e f))))))) ≡ F k a b c d e f
all_given k a b c d e f F eo ep eq er es et eu = rw (eo, ep, eq, er, es, et, eu)

abbrev ended : List ℕ → ℕ → ℕ → ℕ → ℕ → ℕ → ℕ → ℕ → Option Numbers
ended bs k a b c d e f =
    cond (eqb (get_or bs 28 0) 10)
    (Some (record { kind = k; operands = record { first = a; second = b; third = c; fourth = d; fifth = e; sixth = f } }))
    None

-- the columns of a line are the numbers
pub record Columned (bs : List ℕ) (l : Numbers) : Type 0 where
  pub kind : column_at bs 0 ≡ Some l.kind
  pub first : column_at bs 4 ≡ Some l.operands.first
  pub second : column_at bs 8 ≡ Some l.operands.second
  pub third : column_at bs 12 ≡ Some l.operands.third
  pub fourth : column_at bs 16 ≡ Some l.operands.fourth
  pub fifth : column_at bs 20 ≡ Some l.operands.fifth
  pub sixth : column_at bs 24 ≡ Some l.operands.sixth

pub columned : (bs : List ℕ) (l : Numbers) → Columned bs l → numbers_in bs ≡ cond (eqb (get_or bs 28 0) 10) (Some l) None
columned bs l c =
    all_given l.kind l.operands.first l.operands.second l.operands.third l.operands.fourth l.operands.fifth l.operands.sixth
    (ended bs) c.kind c.first c.second c.third c.fourth c.fifth c.sixth

pub numbers_there : (bs : List ℕ) (l : Numbers) → Columned bs l → get_or bs 28 0 ≡ 10 → numbers_in bs ≡ Some l
numbers_there bs l c e = columned bs l c ∙ cond-true (eqb (get_or bs 28 0) 10) (Some l) None (eq-eqb (get_or bs 28 0) 10 e)

pub numbers_absent : (bs : List ℕ) (l : Numbers) → Columned bs l → (get_or bs 28 0 ≡ 10 → ⊥) → None ≡ numbers_in bs
numbers_absent bs l c ne = sym (columned bs l c ∙ cond-false (eqb (get_or bs 28 0) 10) (Some l) None (ne_eqb (get_or bs 28 0) 10 ne))

-- one column more, where the bytes behind i begin with it
column_more : (bs : List ℕ) (i n : ℕ) (rest : List ℕ) → n < 10000 → drop i bs ≡ column_of n ++ rest → (column_at bs i ≡ Some n) × (drop (i + 4) bs ≡ rest)
column_more bs i n rest h e = (
  ap (λ xs. number_in (take 4 xs)) e ∙ ap number_in (take_at (column_of n) rest 4 (length-column n)) ∙ number_of_column n h,
  sym (drop-drop 4 i bs) ∙ (ap (drop 4) e ∙ drop_at (column_of n) rest 4 (length-column n)),
)

column_less : (bs : List ℕ) (i n : ℕ) → column_at bs i ≡ Some n → (n < 10000) × (drop i bs ≡ column_of n ++ drop (i + 4) bs)
column_less bs i n e =
    let c = column_of_number (take 4 (drop i bs)) n e in
    (c.0, sym (take-append-drop 4 (drop i bs)) ∙ (ap (λ xs. xs ++ drop 4 (drop i bs)) c.1 ∙ ap (λ xs. column_of n ++ xs) (drop-drop 4 i bs)))

pub reads_written : (l : Numbers) → Short l → numbers_in (written l) ≡ Some l
reads_written l s =
    let bs = written l in
    let k = column_more bs 0 l.kind _ s.kind refl in
    let a = column_more bs 4 l.operands.first _ s.first k.1 in
    let b = column_more bs 8 l.operands.second _ s.second a.1 in
    let c = column_more bs 12 l.operands.third _ s.third b.1 in
    let d = column_more bs 16 l.operands.fourth _ s.fourth c.1 in
    let e = column_more bs 20 l.operands.fifth _ s.fifth d.1 in
    let f = column_more bs 24 l.operands.sixth _ s.sixth e.1 in
    numbers_there bs l
    (record { kind = k.0; first = a.0; second = b.0; third = c.0; fourth = d.0; fifth = e.0; sixth = f.0 })
    (sym (get_or-drop 28 bs 0 0) ∙ ap (λ xs. get_or xs 0 0) f.1)

-- columns of which numbers came are all there
record There (o p q r s t u : Option ℕ) (F : ℕ → ℕ → ℕ → ℕ → ℕ → ℕ → ℕ → Option Numbers) (y : Numbers) : Type 0 where
  l : Numbers
  kind : o ≡ Some l.kind
  first : p ≡ Some l.operands.first
  second : q ≡ Some l.operands.second
  third : r ≡ Some l.operands.third
  fourth : s ≡ Some l.operands.fourth
  fifth : t ≡ Some l.operands.fifth
  sixth : u ≡ Some l.operands.sixth
  gives : F l.kind l.operands.first l.operands.second l.operands.third l.operands.fourth l.operands.fifth l.operands.sixth ≡ Some y

there : (o p q r s t u : Option ℕ) (F : ℕ → ℕ → ℕ → ℕ → ℕ → ℕ → ℕ → Option Numbers) (y : Numbers)
    → given o (λ k. given p (λ a. given q (λ b. given r (λ c. given s (λ d. given t (λ e. given u (λ f. F k a b c d e f))))))) ≡ Some y
    → There o p q r s t u F y
there None p q r s t u F y h = absurd (none_some h)
there (Some k) None q r s t u F y h = absurd (none_some h)
there (Some k) (Some a) None r s t u F y h = absurd (none_some h)
there (Some k) (Some a) (Some b) None s t u F y h = absurd (none_some h)
there (Some k) (Some a) (Some b) (Some c) None t u F y h = absurd (none_some h)
there (Some k) (Some a) (Some b) (Some c) (Some d) None u F y h = absurd (none_some h)
there (Some k) (Some a) (Some b) (Some c) (Some d) (Some e) None F y h = absurd (none_some h)
there (Some k) (Some a) (Some b) (Some c) (Some d) (Some e) (Some f) F y h =
    record {
      l = record { kind = k; operands = record { first = a; second = b; third = c; fourth = d; fifth = e; sixth = f } };
      kind = refl;
      first = refl;
      second = refl;
      third = refl;
      fourth = refl;
      fifth = refl;
      sixth = refl;
      gives = h;
    }

some_by_test : {A : Type 0} (b : Bool) (x y : A) → cond b (Some x) None ≡ Some y → (b ≡ true) × (x ≡ y)
some_by_test true x y e = (refl, some_same e)
some_by_test false x y e = absurd (none_some e)

-- the numbers that came out are those of the columns
columns_of : (bs : List ℕ) (l : Numbers) → numbers_in bs ≡ Some l → Columned bs l × (get_or bs 28 0 ≡ 10)
columns_of bs l r =
    let t = there (column_at bs 0) (column_at bs 4) (column_at bs 8) (column_at bs 12) (column_at bs 16) (column_at bs 20) (column_at bs 24) (ended bs) l r in
    let b = some_by_test (eqb (get_or bs 28 0) 10) t.l l t.gives in
    let c : Columned bs t.l = record { kind = t.kind; first = t.first; second = t.second; third = t.third; fourth = t.fourth; fifth = t.fifth; sixth = t.sixth } in
    (subst (λ m. Columned bs m) b.1 c, eqb-true (get_or bs 28 0) 10 b.0)

last_byte : (bs : List ℕ) → length bs ≡ 29 → get_or bs 28 0 ≡ 10 → drop 28 bs ≡ 10 ∷ []
last_byte bs n e =
    drop_more bs 28 0 (omega arith) ∙ (ap (λ x. x ∷ drop 29 bs) e ∙ ap (λ xs. 10 ∷ xs) (drop_all 29 bs (omega arith)))

pub written_reads : (bs : List ℕ) (l : Numbers) → length bs ≡ 29 → numbers_in bs ≡ Some l → Short l × (bs ≡ written l)
written_reads bs l n r =
    let c = columns_of bs l r in
    let k = column_less bs 0 l.kind c.0.kind in
    let a = column_less bs 4 l.operands.first c.0.first in
    let b = column_less bs 8 l.operands.second c.0.second in
    let d = column_less bs 12 l.operands.third c.0.third in
    let e = column_less bs 16 l.operands.fourth c.0.fourth in
    let f = column_less bs 20 l.operands.fifth c.0.fifth in
    let g = column_less bs 24 l.operands.sixth c.0.sixth in
    let h = last_byte bs n c.1 in (
      record { kind = k.0; first = a.0; second = b.0; third = d.0; fourth = e.0; fifth = f.0; sixth = g.0 },
      k.1 ∙ ap (λ xs. column_of l.kind ++ xs) (a.1 ∙ ap (λ xs. column_of l.operands.first ++ xs) (b.1
          ∙ ap (λ xs. column_of l.operands.second ++ xs) (d.1 ∙ ap (λ xs. column_of l.operands.third ++ xs) (e.1
          ∙ ap (λ xs. column_of l.operands.fourth ++ xs) (f.1 ∙ ap (λ xs. column_of l.operands.fifth ++ xs) (g.1
          ∙ ap (λ xs. column_of l.operands.sixth ++ xs) h)))))),
    )
