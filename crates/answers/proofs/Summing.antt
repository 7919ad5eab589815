-- The pieces of a summary in a row, and the counts in it.
use Rattle.std.proofs.Common.{◌≡◌, ℕ, ◌+◌, List, [], ◌∷◌, ◌++◌, map, length, codes, refl, ap, ◌∙◌, arith}
use lib.ListN.{length-map}
use Rattle.std.proofs.lemmas.List.{append_assoc}
use Rattle.sheet.specs.Routines.{Command, assign, load, store, new, free, jump, branch, cut, call, done, Routine, atoms_behind, total, list_of}
use Rattle.sheet.specs.declared.rows.Row.{Row}
use Rattle.sheet.specs.declared.rows.AtomList.{AtomList}
use Rattle.sheet.specs.declared.sheets.Head.{Head}
use Rattle.sheet.specs.Laid.{laid_list, laid_row}
use Rattle.sheet.specs.Sheets.{head_of}
use Rattle.answers.specs.Summaries.{item, summary_of, summary_line, count_row, count_rows}

in_a_row : {a b c d e f g h : List ℕ} (p q r s t u v : List ℕ) → a ≡ [] → b ≡ a ++ p → c ≡ b ++ q → d ≡ c ++ r → e ≡ d ++ s → f ≡ e ++ t → g ≡ f ++ u → h ≡ g ++ v
    → h ≡ p ++ (q ++ (r ++ (s ++ (t ++ (u ++ v)))))
in_a_row p q r s t u v ea eb ec ed ee ef eg eh = rw (eh, eg, ef, ee, ed, ec, eb, ea) (simp append_assoc)

-- an item with a number that is widened first
pub by_number : {l : List ℕ} (k w : List ℕ) {m n : ℕ} → l ≡ k ++ item w m → m ≡ n → l ≡ k ++ item w n
by_number k w e q = e ∙ ap (λ x. k ++ item w x) q

count_one : (c : Command) → count_row (laid_row c) ≡ length (list_of c)
count_one (assign x e) = refl
count_one (load x y) = refl
count_one (store x e) = refl
count_one (new x) = refl
count_one (free x) = refl
count_one (jump r) = refl
count_one (branch e f r) = refl
count_one (cut l) = refl
count_one (call x q y z s t l) = refl
count_one done = refl

count_laid : (cs : List Command) → count_rows (map laid_row cs) ≡ atoms_behind cs
count_laid [] = refl
count_laid (c ∷ cs) = let h = count_laid cs in let o = count_one c in omega arith

same_summary : {a b c d e f g h i j k l : ℕ} → a ≡ g → b ≡ h → c ≡ i → d ≡ j → e ≡ k → f ≡ l → summary_of a b c d e f ≡ summary_of g h i j k l
same_summary ea eb ec ed ee ef = rw (ea, eb, ec, ed, ee, ef)

-- the atoms of a routine, counted where they lie
atoms_of : (R : Routine) (b a : AtomList) (rs : List Row) → b ≡ laid_list R.before → a ≡ laid_list R.after → rs ≡ map laid_row R.rows → b.count + a.count + count_rows rs ≡ total R
atoms_of R b a rs eb ea er =
    let x = ap (λ l. l.count) eb in
    let y = ap (λ l. l.count) ea in
    let z = ap count_rows er in
    let c = count_laid R.rows in
    omega arith

pub summed : (R : Routine) (h : Head) (b a : AtomList) (rs : List Row) (n : ℕ) {l0 l1 l2 l3 l4 l5 l6 l7 : List ℕ}
    → h ≡ head_of R → b ≡ laid_list R.before → a ≡ laid_list R.after → rs ≡ map laid_row R.rows → n ≡ b.count + a.count + count_rows rs
    → l0 ≡ [] → l1 ≡ l0 ++ item (codes "routine") h.own → l2 ≡ l1 ++ item (codes " variables") h.variables
    → l3 ≡ l2 ++ item (codes " arguments") h.arguments → l4 ≡ l3 ++ item (codes " ghosts") h.ghosts
    → l5 ≡ l4 ++ item (codes " rows") (length rs) → l6 ≡ l5 ++ item (codes " atoms") n → l7 ≡ l6 ++ (10 ∷ [])
    → l7 ≡ summary_line R
summed R h b a rs n eh eb ea er en e0 e1 e2 e3 e4 e5 e6 e7 =
    in_a_row (item (codes "routine") h.own) (item (codes " variables") h.variables) (item (codes " arguments") h.arguments) (item (codes " ghosts") h.ghosts) (item (codes " rows") (length rs)) (item (codes " atoms") n) (10 ∷ []) e0 e1 e2 e3 e4 e5 e6 e7
    ∙ same_summary (ap (λ x. x.own) eh) (ap (λ x. x.variables) eh) (ap (λ x. x.arguments) eh) (ap (λ x. x.ghosts) eh)
    (ap (λ x. length x) er ∙ length-map R.rows laid_row) (en ∙ atoms_of R b a rs eb ea er)
